-- The next command is a step, and its reply was told; or nothing waited.
use Rattle.rssd_run.proofs.QueueActs.{session_same, serve_acts, serve_cut}
use Rattle.rssd_run.proofs.QueueTags.{always_err, taken_of}
use Rattle.rssd_run.proofs.run.queue_lines.serve_next.Goals as goal

pub returns-in_default-clause-ok : goal.returns-in_default-clause-ok
returns-in_default-clause-ok g c = λ d numbers lines tag due.
    session_same d lines tag c.args.queue.now c.serve.new.queue (g.S.Stepping.session c.args.session.now) (g.S.Stepping.session c.serve.new.self) (g.O.Sink.log c.args.out.now)
    c.in_default.ensures.same c.in_default.ensures.same_session

pub returns-in_err-tell-clause-queue_of : goal.returns-in_err-tell-clause-queue_of
returns-in_err-tell-clause-queue_of g c =
    let s = c.in-Some.ensures.served c.requires.queue_of.numbers c.requires.queue_of.has in
    taken_of (g.S.Stepping.session c.args.session.now) (g.S.Stepping.session c.serve.new.self) c.args.queue.now c.serve.new.queue c.requires.queue_of c.serve.ensures.numbers s.command s.taken

pub returns-in_err-tell-clause-err : goal.returns-in_err-tell-clause-err
returns-in_err-tell-clause-err g c = always_err c.from_residual.result _ (λ d numbers lines tag due.
    serve_cut d (g.S.Stepping.session c.args.session.now) (g.S.Stepping.session c.serve.new.self) (g.O.Sink.log c.args.out.now) (g.O.Sink.log c.tell.new.out) c.in-Some.tag c.in-Some.reply
    c.args.queue.now c.serve.new.queue (c.in-Some.ensures.served d numbers) lines tag due c.in_err-tell.ensures.given.0 c.in_err-tell.ensures.given.1)

pub returns-clause-queue_of : goal.returns-clause-queue_of
returns-clause-queue_of g c =
    let s = c.in-Some.ensures.served c.requires.queue_of.numbers c.requires.queue_of.has in
    taken_of (g.S.Stepping.session c.args.session.now) (g.S.Stepping.session c.serve.new.self) c.args.queue.now c.serve.new.queue c.requires.queue_of c.serve.ensures.numbers s.command s.taken

pub returns-clause-ok : goal.returns-clause-ok
returns-clause-ok g c = λ d numbers lines tag due.
    serve_acts d (g.S.Stepping.session c.args.session.now) (g.S.Stepping.session c.serve.new.self) (g.O.Sink.log c.args.out.now) (g.O.Sink.log c.tell.new.out) c.in-Some.tag c.in-Some.reply
    c.args.queue.now c.serve.new.queue (c.in-Some.ensures.served d numbers) lines tag due c.in_ok-tell.ensures.given

pub returns-clause-one : goal.returns-clause-one
returns-clause-one g c = let s = c.in-Some.ensures.served c.requires.queue_of.numbers c.requires.queue_of.has in (s.command, s.taken)
