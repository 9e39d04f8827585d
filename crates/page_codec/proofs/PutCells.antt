-- A put of a die, by the cells alone.
use Rattle.std.proofs.Common.{◌≡◌, inl, inr, ℕ, ◌*◌, ◌^◌, ◌<◌, true, List, drop, length, slice_index, sym, ap, ◌∙◌, arith, subst, All, length-drop}
use Rattle.std.proofs.lemmas.Bool.{cases_lt}
use Rattle.std.proofs.lemmas.List.{get_or_past}
use Rattle.zero_count.specs.declared.Header.{Header}
use Rattle.cell_die.specs.declared.shape.Shape.{Shape}
use Rattle.cell_die.specs.DieState.{DieState, IsShaped, page_of}
use Rattle.spare_gate.specs.Slots.{is_gate_charged}
use Rattle.page_codec.specs.declared.place.Place.{Place}
use Rattle.page_codec.specs.Geometry.{Geometry, page_count, shape_of}
use Rattle.spare_gate.specs.Slots.{with_record}
use Rattle.page_codec.specs.Puts.{Puts}
use Rattle.page_codec.proofs.PutLaws.{PutsCells}

pub byte_at : (row : List ℕ) → All (λ byte. byte < 256) row → (k : ℕ) → slice_index row k < 2 ^ 8
byte_at row all k = elim (cases_lt k (length row)) [
  | inl within ↦ all k 0 within
  | inr past ↦ subst (λ (byte : ℕ). byte < 2 ^ 8) (sym (get_or_past row k 0 past)) (omega arith)
]

-- a put on a die of these numbers
pub put_cells : {Content : (ℕ → List ℕ) → Type 0} {span : ℕ} (g : Geometry) (place : Place) (h : Header) (old new : DieState) → Puts Content span place h old new
    → old.shape ≡ shape_of g → new.shape ≡ old.shape → IsShaped old → IsShaped new → place.page < page_count g → place.slot < g.generations
    → PutsCells g place h old.cells new.cells
put_cells g place h old new p shape same shaped shaped_new in_page in_slot = record {
  done = p.done;
  record_there = subst (λ (m : ℕ). drop m (p.done place.page) ≡ with_record (drop m (page_of old place.page)) place.slot h) main p.record_there;
  other_spares = λ page apart. subst (λ (m : ℕ). drop m (p.done page) ≡ drop m (page_of old page)) main (p.other_spares page apart);
  above = p.above;
  below = p.below;
  whole = λ charged. p.whole (subst (λ (m : ℕ). is_gate_charged (drop m (page_of new place.page)) place.slot ≡ true) (sym (ap (λ (s : Shape). s.main_bytes) same ∙ main)) charged);
  room = omega (arith, length-drop g.main_bytes (page_of old place.page), shaped.lengths place.page within, main, spare);
  old_bytes = λ page k. byte_at (page_of old page) (shaped.bytes page) k;
  new_bytes = λ page k. byte_at (page_of new page) (shaped_new.bytes page) k;
}
  where
    main : old.shape.main_bytes ≡ g.main_bytes
    main = ap (λ (s : Shape). s.main_bytes) shape

    spare : old.shape.spare_bytes ≡ 16 * g.generations
    spare = ap (λ (s : Shape). s.spare_bytes) shape

    within : place.page < old.shape.blocks * old.shape.pages
    within = subst (λ (s : Shape). place.page < s.blocks * s.pages) (sym shape) in_page
