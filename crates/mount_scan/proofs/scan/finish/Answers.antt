-- The settled book and a run of the recycling rule from it are those of a mount.
use Rattle.std.proofs.Common.{refl}
use Rattle.mount_scan.proofs.TrueMount.{tables_are_mounted}
use Rattle.mount_scan.proofs.scan.finish.Goals as goal

pub returns : goal.returns
returns c g cells shape some read free =
    tables_are_mounted g cells c.args.reuse_max c.args.spare c.args.tables.now c.settle.new.tables _ shape some read free c.settle.ensures c.blocks-blocks.ensures.valid
    c.recycle_due.ensures.recycles refl refl
