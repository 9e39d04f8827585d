-- The zero bytes are given behind the size.
use Rattle.std.proofs.Common.{◌≡◌, ℕ, List, [], ◌∷◌, replicate, sym, ◌∙◌, ap, refl, subst}
use Rattle.std.specs.Prelude.{bit_and}
use Rattle.nbd_wire.specs.Answers.{export_bytes}
use Rattle.rssd_io.specs.Event.{Event}
use Rattle.rssd_io.specs.Pieces.{Gives, StopsAt}
use Rattle.rssd_disk.specs.Handshakes.{export_of, name_told}
use Rattle.rssd_disk.proofs.Given.{stops_behind, if_err}
use Rattle.rssd_disk.proofs.handshake.answer_name.Goals as goal

filled : (size flags : ℕ) → bit_and flags 2 ≡ 0 → name_told size flags ≡ export_bytes (export_of size) ∷ replicate 124 0 ∷ []
filled size flags e = rw e refl

pub returns-in_err-give-2-clause-stops : goal.returns-in_err-give-2-clause-stops
returns-in_err-give-2-clause-stops g c =
    let old : List Event = g.O.Sink.log c.args.to.now in
    let mid : List Event = g.O.Sink.log c.give.new.to in
    let new : List Event = g.O.Sink.log c.give-then-flags-eq0.new.to in
    let size : List ℕ = export_bytes (export_of c.args.size) in
    let gave : Gives (size ∷ []) old mid = subst (λ (l : List ℕ). Gives (l ∷ []) old mid) (c.encode.ensures ∙ ap export_bytes c.export_of.ensures) c.in_ok-give.ensures.gave in
    let stops : StopsAt (size ∷ replicate 124 0 ∷ []) old new = stops_behind (size ∷ []) (replicate 124 0 ∷ []) gave c.in_err-give-2.ensures.stops in
    let told : StopsAt (name_told c.args.size c.args.flags) old new = subst (λ (l : List (List ℕ)). StopsAt l old new) (sym (filled c.args.size c.args.flags c.if-flags-eq0.true)) stops in
    if_err c.from_residual-in_err-give-2.result told
