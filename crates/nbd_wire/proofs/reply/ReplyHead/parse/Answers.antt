-- What is read of a message's bytes is the message, whose bytes are then the same.
use Rattle.std.proofs.Common.{◌≡◌, ap, sym, ◌∙◌}
use Rattle.nbd_wire.specs.Replies.{reply_bytes, reply_in}
use Rattle.nbd_wire.proofs.Again.{reply_again}
use Rattle.nbd_wire.proofs.Texts.{same_bytes}
use Rattle.nbd_wire.proofs.reply.ReplyHead.parse.Goals as goal

pub returns-in_err-reply-clause-only : goal.returns-in_err-reply-clause-only
returns-in_err-reply-clause-only c = λ r is e.
    let read = c.read.ensures ∙ ap reply_in e ∙ reply_again r is in absurd (cc (c.in_err-reply.was))

pub returns-then-eq-clause-only : goal.returns-then-eq-clause-only
returns-then-eq-clause-only c = λ r is e.
    let read = c.read.ensures ∙ ap reply_in e ∙ reply_again r is in cc (c.in_ok-reply.was)

pub returns-else-eq-clause-only : goal.returns-else-eq-clause-only
returns-else-eq-clause-only c = λ r is e.
    let read = c.read.ensures ∙ ap reply_in e ∙ reply_again r is in
    let found : c.in_ok-reply.reply ≡ r = cc (c.in_ok-reply.was) in
    let same = same_bytes c.encode.result c.args.bytes.now (c.encode.ensures ∙ ap reply_bytes found ∙ sym e) in absurd (cc (same))
