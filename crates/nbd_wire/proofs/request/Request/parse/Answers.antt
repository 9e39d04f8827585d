-- What is read of a message's bytes is the message, whose bytes are then the same.
use Rattle.std.proofs.Common.{ap, sym, ◌∙◌}
use Rattle.nbd_wire.specs.Requests.{request_bytes, request_in}
use Rattle.nbd_wire.proofs.Again.{request_again}
use Rattle.nbd_wire.proofs.Texts.{same_bytes}
use Rattle.nbd_wire.proofs.request.Request.parse.Goals as goal

pub returns-then-eq-clause-only : goal.returns-then-eq-clause-only
returns-then-eq-clause-only c = λ r is e.
    let read = c.read-request.ensures.read ∙ ap request_in e ∙ request_again r is in cc

pub returns-else-eq-clause-only : goal.returns-else-eq-clause-only
returns-else-eq-clause-only c = λ r is e.
    let read = c.read-request.ensures.read ∙ ap request_in e ∙ request_again r is in
    let same = same_bytes c.encode.result c.args.bytes.now (c.encode.ensures ∙ ap request_bytes read ∙ sym e) in absurd cc
