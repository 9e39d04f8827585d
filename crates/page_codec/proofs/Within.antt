-- A header stands only within the die.
use Rattle.std.proofs.Common.{◌≡◌, inl, inr, ℕ, ◌+◌, ◌-◌, ◌*◌, ◌<◌, ◌≤◌, Bool, true, false, List, [], length, drop, if◌then◌else◌, Some, None, refl, sym, ap, arith, subst, length-take, length-drop}
use Rattle.std.proofs.lemmas.Bool.{cases_lt}
use Rattle.std.proofs.lemmas.List.{get_or_past}
use Rattle.std.proofs.lemmas.Option.{none-some}
use Rattle.zero_count.specs.declared.Header.{Header}
use Rattle.zero_count.specs.HeaderWord.{header_of, is_valid}
use Rattle.zero_count.proofs.ValidWords.{valid_parts}
use Rattle.cell_die.specs.Cells.{page_at}
use Rattle.page_codec.specs.Geometry.{HasShape}
use Rattle.spare_gate.specs.Slots.{word_at}
use Rattle.page_codec.specs.declared.place.Place.{Place}
use Rattle.page_codec.specs.Geometry.{Geometry, page_count, shape_of, spare_at}
use Rattle.page_codec.specs.Records.{header_in}

pub header_valid : (word : List ℕ) (h : Header) → header_of word ≡ Some h → is_valid word ≡ true
unfolding header_of
header_valid word h e = at _ (is_valid word) refl e
  where
    at : (k : Header) (t : Bool) → is_valid word ≡ t → (if t then Some k else None) ≡ Some h → is_valid word ≡ true
    at k true l m = l
    at k false l m = absurd (none-some h m)

-- a page of the die with a header in a slot of it
pub header_within : (g : Geometry) (cells : List (List ℕ)) (place : Place) (h : Header) → HasShape (shape_of g) cells → header_in g cells place ≡ Some h
    → (place.page < page_count g) × (place.slot < g.generations)
header_within g cells place h s e = elim (cases_lt place.page (page_count g)) [
  | inl within ↦ (within, omega (arith, room, s.bytes place.page within))
  | inr past ↦ absurd (omega (arith, room, ap (length {A = ℕ}) (get_or_past cells place.page [] (subst (λ (n : ℕ). n ≤ place.page) (sym s.pages) past))))
]
  where
    room : g.main_bytes + 16 * place.slot + 15 ≤ length (page_at cells place.page)
    room = omega (
      arith,
      (valid_parts (word_at (spare_at g cells place.page) place.slot) (header_valid (word_at (spare_at g cells place.page) place.slot) h e)).long,
      length-take (16 * place.slot + 15 - (16 * place.slot + 1)) (drop (16 * place.slot + 1) (spare_at g cells place.page)),
      length-drop (16 * place.slot + 1) (spare_at g cells place.page),
      length-drop g.main_bytes (page_at cells place.page),
    )
