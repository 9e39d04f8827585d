-- No block of a blank die has a live record.
use Rattle.std.proofs.Common.{subst}
use Rattle.rssd_run.specs.Heads.{numbers_named}
use Rattle.rssd_lab.specs.declared.status.NotRun.{NotRun}
use Rattle.rssd_lab.specs.Started.{StopsOn}
use Rattle.rssd_lab.proofs.Starts.{never_full, blank_of}
use Rattle.rssd_lab.proofs.on_die.run_blank.Goals as goal

pub unreachable-requires : goal.unreachable-requires
unreachable-requires g c =
    let ready = c.args.ready in
    let die = g.D.Die.state ready.die in
    let full = subst (λ (why : NotRun). StopsOn g.L.Lines.gives g.L.Lines.ended g.L.Lines.stops c.args.telling (numbers_named ready.head) die why
    c.args.lines.now c.run_on.new.lines (g.O.Sink.log c.args.out.now) (g.O.Sink.log c.run_on.new.out)) c.in-Err-NoSpare.field-0-is c.in-Err-NoSpare.ensures.stops in
    never_full ready.head ready.within die (g.met.D.Die.shaped ready.die) (blank_of c.args.asked.now c.requires.within ready.head c.requires.head die c.requires.blank) full.0
