-- The row may fail behind the reply.
use Rattle.std.proofs.Common.{[], ◌∷◌}
use Rattle.std.specs.Prelude.{if◌then◌else◌}
use Rattle.rssd_script.specs.Replies.{reply_line}
use Rattle.rssd_lab.specs.Runs.{handed}
use Rattle.rssd_lab.proofs.Told.{fault_later}
use Rattle.rssd_lab.proofs.laboratory.tell.Goals as goal

pub returns-then-score-telling-eq0-clause-fault : goal.returns-then-score-telling-eq0-clause-fault
returns-then-score-telling-eq0-clause-fault g c =
    let log = g.O.Sink.log in
    fault_later c.give_row.result (log c.args.out.now) (log c.give_reply.new.out) (log c.give_row.new.out)
    (handed (if c.args.telling.replies then reply_line c.args.reply.now ∷ [] else [])) c.in_ok-give_reply.ensures.done c.give_row.ensures.fault
