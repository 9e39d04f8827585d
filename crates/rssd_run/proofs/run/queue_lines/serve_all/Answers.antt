-- One serve more leads on from those before it.
use Rattle.rssd_io.proofs.Told.{held_same, held_more}
use Rattle.rssd_run.specs.Serves.{is_running}
use Rattle.rssd_run.specs.QueueActs.{place}
use Rattle.rssd_run.proofs.QueueActs.{session_none, session_then, session_cut}
use Rattle.rssd_run.proofs.QueueTags.{always_err, due_all}
use Rattle.rssd_run.proofs.run.queue_lines.serve_all.Goals as goal

pub loop-init : goal.loop-init
loop-init g c = record {
  numbers = λ d numbers. numbers;
  queue_of = c.requires.queue_of;
  held = held_same (g.O.Sink.written c.args.out.now) (g.O.Sink.log c.args.out.now);
  acts = λ d numbers lines tag all. session_none d (place lines tag c.args.queue.now) (g.S.Stepping.session c.args.session.now) (g.O.Sink.log c.args.out.now);
}

pub loop-preserved : goal.loop-preserved
loop-preserved g c =
    let session = g.S.Stepping.session in
    let log = g.O.Sink.log in
    record {
      numbers = λ d numbers. c.serve_next.ensures.numbers d (c.loop.invariant.numbers d numbers);
      queue_of = c.serve_next.ensures.queue_of;
      held = held_more c.loop.invariant.held c.serve_next.ensures.held;
      acts = λ d numbers lines tag all.
          session_then d (place lines tag c.args.queue.now) (place lines tag c.loop.queue) (place lines tag c.serve_next.new.queue) (session c.args.session.now) (session c.loop.session)
          (session c.serve_next.new.session)
          (log c.args.out.now) (log c.loop.out) (log c.serve_next.new.out) (c.loop.invariant.acts d numbers lines tag all)
          (c.in_ok-serve_next.ensures.ok d (c.loop.invariant.numbers d numbers) lines tag (due_all (is_running (session c.loop.session).holding) c.loop.queue lines all));
    }

pub returns-clause-numbers : goal.returns-clause-numbers
returns-clause-numbers g c = λ d numbers. c.serve_next.ensures.numbers d (c.loop.invariant.numbers d numbers)

pub returns-clause-ok : goal.returns-clause-ok
returns-clause-ok g c = λ d numbers lines tag all.
    let session = g.S.Stepping.session in
    let log = g.O.Sink.log in
    session_then d (place lines tag c.args.queue.now) (place lines tag c.loop.queue) (place lines tag c.serve_next.new.queue) (session c.args.session.now) (session c.loop.session)
    (session c.serve_next.new.session)
    (log c.args.out.now) (log c.loop.out) (log c.serve_next.new.out) (c.loop.invariant.acts d numbers lines tag all)
    (c.in_ok-serve_next.ensures.ok d (c.loop.invariant.numbers d numbers) lines tag (due_all (is_running (session c.loop.session).holding) c.loop.queue lines all))

pub returns-in_err-serve_next-clause-numbers : goal.returns-in_err-serve_next-clause-numbers
returns-in_err-serve_next-clause-numbers g c = λ d numbers. c.serve_next.ensures.numbers d (c.loop.invariant.numbers d numbers)

pub returns-in_err-serve_next-clause-err : goal.returns-in_err-serve_next-clause-err
returns-in_err-serve_next-clause-err g c = always_err c.from_residual.result _ (λ d numbers lines tag all.
    let session = g.S.Stepping.session in
    let log = g.O.Sink.log in
    session_cut d (place lines tag c.args.queue.now) (place lines tag c.loop.queue) (session c.args.session.now) (session c.loop.session) (session c.serve_next.new.session)
    (log c.args.out.now) (log c.loop.out) (log c.serve_next.new.out) (c.loop.invariant.acts d numbers lines tag all)
    (c.in_err-serve_next.ensures.err d (c.loop.invariant.numbers d numbers) lines tag (due_all (is_running (session c.loop.session).holding) c.loop.queue lines all)))

pub returns-clause-held : goal.returns-clause-held
returns-clause-held g c = held_more c.loop.invariant.held c.serve_next.ensures.held

pub returns-in_err-serve_next-clause-held : goal.returns-in_err-serve_next-clause-held
returns-in_err-serve_next-clause-held g c = held_more c.loop.invariant.held c.serve_next.ensures.held
