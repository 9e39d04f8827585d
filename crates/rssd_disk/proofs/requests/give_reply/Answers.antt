-- The head and what a read answers are given in one piece.
use Rattle.std.proofs.Common.{◌≡◌, ℕ, List, [], ◌∷◌, ◌++◌, length, ap, ◌∙◌, arith}
use Rattle.std.proofs.lemmas.List.{length-take}
use Rattle.rssd_io.specs.Event.{moved}
use Rattle.rssd_disk.proofs.Asked.{reply_piece}
use Rattle.rssd_disk.proofs.requests.give_reply.Goals as goal

pub returns-in-Ok-clause-given : goal.returns-in-Ok-clause-given
returns-in-Ok-clause-given g c =
    let head : List ℕ = c.copy_from_slice.new.self in
    let long : length head ≡ 16 = c.copy_from_slice.auto.self ∙ length-take 16 c.args.room.now ∙ omega (arith, c.requires) in
    c.in-Ok.ensures.log ∙ ap (λ (l : List ℕ). g.O.Sink.log c.args.to.now ++ moved l ∷ [])
    (reply_piece c.args.request.now c.args.error head c.args.room.now c.told_length.result (c.copy_from_slice.ensures.after ∙ c.encode.ensures) long c.told_length.ensures)
