-- The session stands for the sectors of the die's cells, and its lines are a run from there.
use Rattle.mem_die.specs.MemState.{mem_state}
use Rattle.rssd_run.specs.Heads.{numbers_named}
use Rattle.rssd_run.proofs.DieStart.{runs_on, runs_front_on}
use Rattle.rssd_run.proofs.run.on_die.run_with.Goals as goal

pub returns-in-Ok-clause-done : goal.returns-in-Ok-clause-done
returns-in-Ok-clause-done g c =
    let d = numbers_named c.args.head.now in
    let starts = c.in_ok-session.ensures.started in
    runs_on c.args.head.now (mem_state c.args.die) c.args.lines.now (g.O.Sink.log c.args.out.now) (g.O.Sink.log c.run_lines.new.out) c.requires.ready _ _ starts
    (mem_state c.finish.result) (c.finish.ensures.shape d (c.run_lines.ensures.numbers d starts.numbers)) c.finish.ensures.die (c.run_lines.ensures.keeps d starts.numbers) c.run_lines.ensures.grew
    (c.in-Ok.ensures.answered d starts.numbers) (c.in-Ok.ensures.ok d starts.numbers)

pub returns-in-Err-clause-front : goal.returns-in-Err-clause-front
returns-in-Err-clause-front g c = λ is.
    let starts = c.in_ok-session.ensures.started in
    runs_front_on c.args.head.now (mem_state c.args.die) c.args.lines.now (g.O.Sink.log c.args.out.now) (g.O.Sink.log c.run_lines.new.out) c.requires.ready _ _ starts
    (c.in-Err.ensures.answered_front (numbers_named c.args.head.now) starts.numbers) (c.in-Err.ensures.err (numbers_named c.args.head.now) starts.numbers)
