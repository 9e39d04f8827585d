-- What the scan says of its own numbers holds of those of the scheme.
use Rattle.std.proofs.Common.{length}
use Rattle.cell_die.specs.DieState.{page_count}
use Rattle.devices_on_dies.proofs.Mounted.{scanned_true}
use Rattle.devices_on_dies.proofs.collected.mount_true.Goals as goal

pub returns-clause-tables : goal.returns-clause-tables
returns-clause-tables g c =
    let old = g.D.Die.state c.args.die.now in
    scanned_true old (g.D.Die.state c.scan_all.new.die) (g.C.Scheme.meaning c.args._scheme.now) c.args.work.now c.scan_all.new.tables (length c.args.tables.now.map) 0 (page_count old.shape)
    c.requires.scheme c.in_ok-scan_all.ensures.mounted c.in_ok-scan_all.ensures.reads
