-- The acts of the lines begin at a blank die that was mounted, with a queue for its sectors.
use Rattle.std.proofs.Common.{rules}
use Rattle.mem_die.specs.MemState.{mem_state, mem_shaped}
use Rattle.rssd_run.specs.Heads.{numbers_named}
use Rattle.rssd_run.specs.Shows.{session_of}
use Rattle.rssd_run.proofs.BlankStart.{IsFresh, never_full}
use Rattle.rssd_run.proofs.QueueRuns.{some_bytes, queue_of_head, queues_of, front_of_queue}
use Rattle.rssd_run.proofs.run.queue_run.queue_with.Goals as goal

pub returns-in_err-session-clause-spare : goal.returns-in_err-session-clause-spare
returns-in_err-session-clause-spare g c = λ is.
    let fresh : IsFresh c.args.head.now (mem_state c.args.die) = record { within = c.requires.within; shaped = mem_shaped c.args.die; new = c.requires.blank } in
    never_full c.args.head.now (mem_state c.args.die) fresh (search rules)

pub new-requires-clause-some_bytes : goal.new-requires-clause-some_bytes
new-requires-clause-some_bytes g c = (some_bytes c.args.head.now c.sector_bytes.result c.sector_bytes.ensures).0

pub new-requires-clause-few_bytes : goal.new-requires-clause-few_bytes
new-requires-clause-few_bytes g c = (some_bytes c.args.head.now c.sector_bytes.result c.sector_bytes.ensures).1

pub queue_lines-requires-clause-queue_of : goal.queue_lines-requires-clause-queue_of
queue_lines-requires-clause-queue_of g c =
    queue_of_head c.args.head.now c.sector_bytes.result c.sector_bytes.ensures c.in-Ok.queue c.in-Ok.ensures
    (session_of mem_state g.C.Scheme.meaning g.F.Device.device c.in_ok-session.session) c.in_ok-session.ensures.started.numbers

pub returns-in-Ok-queue_lines-clause-done : goal.returns-in-Ok-queue_lines-clause-done
returns-in-Ok-queue_lines-clause-done g c =
    let fresh : IsFresh c.args.head.now (mem_state c.args.die) = record { within = c.requires.within; shaped = mem_shaped c.args.die; new = c.requires.blank } in
    let starts = c.in_ok-session.ensures.started in
    queues_of c.args.head.now c.sector_bytes.result c.sector_bytes.ensures c.in-Ok.queue c.in-Ok.ensures (mem_state c.args.die) fresh c.args.lines.now _ _ starts
    (g.O.Sink.log c.args.out.now) (g.O.Sink.log c.queue_lines.new.out) c.queue_lines.new.queue c.in-Ok-queue_lines.ensures.done
    (c.in-Ok-queue_lines.ensures.ok (numbers_named c.args.head.now) starts.numbers)

pub returns-clause-front : goal.returns-clause-front
returns-clause-front g c = λ is.
    let fresh : IsFresh c.args.head.now (mem_state c.args.die) = record { within = c.requires.within; shaped = mem_shaped c.args.die; new = c.requires.blank } in
    let starts = c.in_ok-session.ensures.started in
    front_of_queue c.args.head.now c.sector_bytes.result c.sector_bytes.ensures c.in-Ok.queue c.in-Ok.ensures (mem_state c.args.die) fresh c.args.lines.now _ _ starts
    (g.O.Sink.log c.args.out.now) (g.O.Sink.log c.queue_lines.new.out) (c.in-Err.ensures.err (numbers_named c.args.head.now) starts.numbers)
