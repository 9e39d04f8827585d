-- The data are given behind the head.
use Rattle.std.proofs.Common.{ℕ, List, [], ◌∷◌, length, subst}
use Rattle.nbd_wire.specs.Answers.{answer_bytes}
use Rattle.rssd_io.specs.Event.{Event}
use Rattle.rssd_io.specs.Pieces.{Gives, StopsAt}
use Rattle.rssd_disk.proofs.Given.{stops_behind, if_err_map}
use Rattle.rssd_disk.proofs.handshake.answer.Goals as goal

pub returns-clause-stops : goal.returns-clause-stops
returns-clause-stops g c =
    let old : List Event = g.O.Sink.log c.args.to.now in
    let mid : List Event = g.O.Sink.log c.give.new.to in
    let new : List Event = g.O.Sink.log c.give-2.new.to in
    let head : List ℕ = answer_bytes (record { kind = c.args.kind; answer = c.args.answer; length = length c.args.bytes.now }) in
    let gave : Gives (head ∷ []) old mid = subst (λ (l : List ℕ). Gives (l ∷ []) old mid) c.encode.ensures c.in_ok-give.ensures.gave in
    if_err_map c.give-2.result (λ (s : StopsAt (c.args.bytes.now ∷ []) mid new). stops_behind (head ∷ []) (c.args.bytes.now ∷ []) gave s) c.give-2.ensures.stops
