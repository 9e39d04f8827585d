-- What is read of a message's bytes is the message, whose bytes are then the same.
use Rattle.std.proofs.Common.{◌≡◌, ap, sym, ◌∙◌}
use Rattle.nbd_wire.specs.Answers.{answer_bytes, answer_in}
use Rattle.nbd_wire.proofs.Again.{answer_again}
use Rattle.nbd_wire.proofs.Texts.{same_bytes}
use Rattle.nbd_wire.proofs.answer.AnswerHead.parse.Goals as goal

pub returns-in_err-answer-clause-only : goal.returns-in_err-answer-clause-only
returns-in_err-answer-clause-only c = λ r is e.
    let read = c.read.ensures.read ∙ ap answer_in e ∙ answer_again r is in absurd (cc (c.in_err-answer.was))

pub returns-then-eq-clause-only : goal.returns-then-eq-clause-only
returns-then-eq-clause-only c = λ r is e.
    let read = c.read.ensures.read ∙ ap answer_in e ∙ answer_again r is in cc (c.in_ok-answer.was)

pub returns-else-eq-clause-only : goal.returns-else-eq-clause-only
returns-else-eq-clause-only c = λ r is e.
    let read = c.read.ensures.read ∙ ap answer_in e ∙ answer_again r is in
    let found : c.in_ok-answer.answer ≡ r = cc (c.in_ok-answer.was) in
    let same = same_bytes c.encode.result c.args.bytes.now (c.encode.ensures ∙ ap answer_bytes found ∙ sym e) in absurd (cc (same))
