-- A run on a blank die is a replay, and a blank die has a spare block.
use Rattle.std.proofs.Common.{rules}
use Rattle.mem_die.specs.MemState.{mem_state, mem_shaped}
use Rattle.rssd_run.proofs.BlankStart.{IsFresh, front_of, never_full, replays_of}
use Rattle.rssd_run.proofs.run.replay.replay.Goals as goal

pub returns-in_err-run_on-clause-front : goal.returns-in_err-run_on-clause-front
returns-in_err-run_on-clause-front g c = λ is.
    let fresh : IsFresh c.args.head.now (mem_state c.in-Ok.die) = record { within = c.requires.within; shaped = mem_shaped c.in-Ok.die; new = c.in-Ok.ensures } in
    front_of c.args.head.now (mem_state c.in-Ok.die) fresh c.args.lines.now (g.O.Sink.log c.args.out.now) (g.O.Sink.log c.run_on.new.out) (search rules)

pub returns-in_err-run_on-clause-spare : goal.returns-in_err-run_on-clause-spare
returns-in_err-run_on-clause-spare g c = λ is.
    let fresh : IsFresh c.args.head.now (mem_state c.in-Ok.die) = record { within = c.requires.within; shaped = mem_shaped c.in-Ok.die; new = c.in-Ok.ensures } in
    never_full c.args.head.now (mem_state c.in-Ok.die) fresh (search rules)

pub returns-clause-done : goal.returns-clause-done
returns-clause-done g c =
    let fresh : IsFresh c.args.head.now (mem_state c.in-Ok.die) = record { within = c.requires.within; shaped = mem_shaped c.in-Ok.die; new = c.in-Ok.ensures } in
    replays_of c.args.head.now (mem_state c.in-Ok.die) fresh c.args.lines.now (g.O.Sink.log c.args.out.now) (g.O.Sink.log c.run_on.new.out)
    (mem_state c.in_ok-run_on.field-0) c.in_ok-run_on.ensures.done
