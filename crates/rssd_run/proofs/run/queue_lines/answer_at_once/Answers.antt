-- The line is a step, and its reply was told.
use Rattle.rssd_script.specs.Replies.{tagged_line}
use Rattle.rssd_run.proofs.QueueActs.{at_once_acts, at_once_cut}
use Rattle.rssd_run.proofs.QueueTags.{gave_ok, gave_err}
use Rattle.rssd_run.proofs.run.queue_lines.answer_at_once.Goals as goal

pub returns-clause-ok : goal.returns-clause-ok
returns-clause-ok g c =
    let log = g.O.Sink.log in
    let session = g.S.Stepping.session in
    gave_ok c.tell.result (tagged_line c.args.tag c.step.new.reply) (log c.args.out.now) (log c.tell.new.out) _ c.tell.ensures.given
    (λ given d numbers lines queue due.
    at_once_acts d (session c.args.session.now) (session c.step.new.self) (log c.args.out.now) (log c.tell.new.out) c.args.line.now c.step.new.reply
    (c.step.ensures.step d numbers) queue lines c.args.tag due given)

pub returns-clause-err : goal.returns-clause-err
returns-clause-err g c =
    let log = g.O.Sink.log in
    let session = g.S.Stepping.session in
    gave_err c.tell.result (tagged_line c.args.tag c.step.new.reply) (log c.args.out.now) (log c.tell.new.out) _ c.tell.ensures.given
    (λ front given d numbers lines queue due.
    at_once_cut d (session c.args.session.now) (session c.step.new.self) (log c.args.out.now) (log c.tell.new.out) c.args.line.now c.step.new.reply
    (c.step.ensures.step d numbers) queue lines c.args.tag due front given)
