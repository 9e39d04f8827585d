-- A die of a head that is within the limits is refused only for want of memory or of a spare block.
use Rattle.mem_die.specs.MemState.{mem_state}
use Rattle.rssd_run.proofs.DieStart.{IsGiven, never_refused, starts_on}
use Rattle.rssd_run.proofs.run.on_die.start.Goals as goal

pub returns-in-Ok-clause-started : goal.returns-in-Ok-clause-started
returns-in-Ok-clause-started g c =
    let given : IsGiven c.args.head.now (g.C.Scheme.meaning c.args.scheme) (mem_state c.args.die) =
    record { within = c.requires.within; meaning_is = c.requires.scheme; ready = c.requires.ready } in
    starts_on c.args.head.now (g.C.Scheme.meaning c.args.scheme) (mem_state c.args.die) given _ c.in-Ok.ensures.started

pub unreachable-requires : goal.unreachable-requires
unreachable-requires g c =
    let given : IsGiven c.args.head.now (g.C.Scheme.meaning c.args.scheme) (mem_state c.args.die) =
    record { within = c.requires.within; meaning_is = c.requires.scheme; ready = c.requires.ready } in
    never_refused c.args.head.now (g.C.Scheme.meaning c.args.scheme) (mem_state c.args.die) given (mem_state c.in-Err.refused.die) c.in-Err.refused.why
    c.in-Err.ensures.shape.0 c.in-Err.ensures.refused c.in-Shape.is
