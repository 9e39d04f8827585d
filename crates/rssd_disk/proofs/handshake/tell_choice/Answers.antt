-- The size, the lengths and the end are given one behind the other.
use Rattle.std.proofs.Common.{ℕ, List, [], ◌++◌, ◌∙◌, ap, subst}
use Rattle.nbd_wire.specs.declared.answer.Answer.TheVariants.{Told, Acknowledged}
use Rattle.nbd_wire.specs.Answers.{size_bytes, lengths_bytes}
use Rattle.rssd_io.specs.Event.{Event}
use Rattle.rssd_io.specs.Pieces.{Gives, StopsAt}
use Rattle.rssd_disk.specs.Handshakes.{export_of, said, choice_told}
use Rattle.rssd_disk.proofs.Given.{stops_front, stops_behind, if_err, if_err_map}
use Rattle.rssd_disk.proofs.handshake.tell_choice.Goals as goal

pub returns-in_err-answer-2-clause-stops : goal.returns-in_err-answer-2-clause-stops
returns-in_err-answer-2-clause-stops g c =
    let old : List Event = g.O.Sink.log c.args.to.now in
    let mid : List Event = g.O.Sink.log c.answer.new.to in
    let new : List Event = g.O.Sink.log c.answer-2.new.to in
    let first : List (List ℕ) = said c.args.kind Told (size_bytes (export_of c.args.size)) in
    let second : List (List ℕ) = said c.args.kind Told (lengths_bytes (export_of c.args.size)) in
    let third : List (List ℕ) = said c.args.kind Acknowledged [] in
    let gave : Gives first old mid = subst (λ (l : List ℕ). Gives (said c.args.kind Told l) old mid) (c.encode_size.ensures ∙ ap size_bytes c.export_of-export.ensures) c.in_ok-answer.ensures.gave in
    let stops : StopsAt second mid new = subst (λ (l : List ℕ). StopsAt (said c.args.kind Told l) mid new) (c.encode_lengths.ensures ∙ ap lengths_bytes c.export_of-export.ensures)
    c.in_err-answer-2.ensures.stops in
    let told : StopsAt (choice_told c.args.kind c.args.size) old new = stops_behind first (second ++ third) gave (stops_front second third stops) in
    if_err c.from_residual-in_err-answer-2.result told

pub returns-clause-stops : goal.returns-clause-stops
returns-clause-stops g c =
    let old : List Event = g.O.Sink.log c.args.to.now in
    let mid : List Event = g.O.Sink.log c.answer.new.to in
    let most : List Event = g.O.Sink.log c.answer-2.new.to in
    let new : List Event = g.O.Sink.log c.answer-3.new.to in
    let first : List (List ℕ) = said c.args.kind Told (size_bytes (export_of c.args.size)) in
    let second : List (List ℕ) = said c.args.kind Told (lengths_bytes (export_of c.args.size)) in
    let third : List (List ℕ) = said c.args.kind Acknowledged [] in
    let gave : Gives first old mid = subst (λ (l : List ℕ). Gives (said c.args.kind Told l) old mid) (c.encode_size.ensures ∙ ap size_bytes c.export_of-export.ensures) c.in_ok-answer.ensures.gave in
    let more : Gives second mid most = subst (λ (l : List ℕ). Gives (said c.args.kind Told l) mid most) (c.encode_lengths.ensures ∙ ap lengths_bytes c.export_of-export.ensures)
    c.in_ok-answer-2.ensures.gave in
    if_err_map c.answer-3.result (λ (s : StopsAt third most new). stops_behind first (second ++ third) gave (stops_behind second third more s)) c.answer-3.ensures.stops
