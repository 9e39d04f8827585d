-- The step of a read, and when every chunk carries its part of a sector.
use Rattle.std.proofs.Common.{◌≡◌, ℕ, ◌+◌, ◌-◌, ◌*◌, ◌<◌, Bool, true, false, List, [], ◌∷◌, length, get_or, ◌==◌, sym, ◌∙◌, ap, ap₂, subst, refl, inl, inr, arith}
use Rattle.std.specs.List.{range_with_len}
use Rattle.std.specs.Cmp.Lexicographic.{pointwise}
use mathlib.Core.Bool.{beq}
use Rattle.std.proofs.lemmas.Bool.{cases_lt}
use Rattle.std.proofs.lemmas.List.Elements.{All-from_get_or}
use Rattle.std.proofs.lemmas.List.FromFn.{length-range_with_len, get_or-range_with_len}
use Rattle.std.proofs.lemmas.List.Sums.{list_all-from_AllPass}
use Rattle.cell_bits.specs.Cells.{charge_at, is_charged}
use Rattle.wom_code.specs.Packed.{word_bit, cells_of}
use Rattle.wom_code.proofs.PackedLemmas.{get_or-cells_of}
use Rattle.striped.specs.Striping.{Striping, chunks, chunk_cells, chunk_message, IsCarried, carries, IsGiven, gives, decoded_bit}
use Rattle.striped.proofs.RowSteps.{on_page}

pub gives_from : (s : Striping) (n : ℕ) (given : List Bool → List Bool → List Bool → Bool) (old sector new : List ℕ) → IsGiven s n given old sector new → gives s n given old sector new ≡ true
unfolding gives
gives_from s n given old sector new h =
    list_all-from_AllPass (λ j. given (chunk_cells s n old j) (chunk_message s sector j) (chunk_cells s n new j)) (range_with_len 0 (chunks s))
    (All-from_get_or (λ j. given (chunk_cells s n old j) (chunk_message s sector j) (chunk_cells s n new j) ≡ true) (range_with_len 0 (chunks s)) 0 (λ i l.
    let p : i < chunks s = omega (arith, length-range_with_len 0 (chunks s)) in
    subst (λ j. given (chunk_cells s n old j) (chunk_message s sector j) (chunk_cells s n new j) ≡ true) (sym (get_or-range_with_len 0 (chunks s) i 0 p ∙ plus i)) (h i p)))
  where
    plus : (i : ℕ) → 0 + i ≡ i
    plus i = omega arith

pub carries_from : (s : Striping) (n : ℕ) (decode : List Bool → List Bool) (bytes sector : List ℕ) → IsCarried s n decode bytes sector → carries s n decode bytes sector ≡ true
unfolding carries
carries_from s n decode bytes sector h =
    list_all-from_AllPass (λ j. pointwise beq (decode (chunk_cells s n bytes j)) (chunk_message s sector j)) (range_with_len 0 (chunks s))
    (All-from_get_or (λ j. pointwise beq (decode (chunk_cells s n bytes j)) (chunk_message s sector j) ≡ true) (range_with_len 0 (chunks s)) 0 (λ i l.
    let p : i < chunks s = omega (arith, length-range_with_len 0 (chunks s)) in
    subst (λ j. pointwise beq (decode (chunk_cells s n bytes j)) (chunk_message s sector j) ≡ true) (sym (get_or-range_with_len 0 (chunks s) i 0 p)) (at i p)))
  where
    reflexive : (xs : List Bool) → pointwise beq xs xs ≡ true
    reflexive [] = refl
    reflexive (true ∷ xs) = reflexive xs
    reflexive (false ∷ xs) = reflexive xs

    at : (i : ℕ) → i < chunks s → pointwise beq (decode (chunk_cells s n bytes (0 + i))) (chunk_message s sector (0 + i)) ≡ true
    at i p = let z : 0 + i ≡ i = omega arith in
        subst (λ j. pointwise beq (decode (chunk_cells s n bytes j)) (chunk_message s sector j) ≡ true) (sym z)
        (subst (λ m. pointwise beq (decode (chunk_cells s n bytes i)) m ≡ true) (h i p) (reflexive (decode (chunk_cells s n bytes i))))

-- ---- the step of a read

pub read_more : (s : Striping) (n : ℕ) (decode : List Bool → List Bool) (bytes old new words message : List ℕ) (i : ℕ) →
    cells_of s.message_bits message ≡ decode (cells_of n words) → cells_of n words ≡ chunk_cells s n bytes i → length old ≡ s.sector_bytes →
    ((j : ℕ) → j < s.message_bits → i * s.message_bits + j < 8 * length old → charge_at new (i * s.message_bits + j) ≡ word_bit message j) →
    ((c : ℕ) → c < i * s.message_bits → charge_at new c ≡ charge_at old c) →
    ((x : ℕ) → x < i * s.message_bits → x < 8 * s.sector_bytes → is_charged old x ≡ decoded_bit s n decode bytes x) →
    (x : ℕ) → x < (i + 1) * s.message_bits → x < 8 * s.sector_bytes → is_charged new x ≡ decoded_bit s n decode bytes x
read_more s n decode bytes old new words message i told row len put below before x h l =
    elim (cases_lt x (i * s.message_bits)) [
      | inl k ↦ ap (λ b. b == 1) (below x k) ∙ before x k l
      | inr m ↦
          let on = on_page s.message_bits i x m (omega arith) in
          let short : x - i * s.message_bits < s.message_bits = omega arith in
          let at : i * s.message_bits + (x - i * s.message_bits) ≡ x = omega arith in
          ap (is_charged new) (sym at) ∙ ap (λ b. b == 1) (put (x - i * s.message_bits) short (omega arith))
          ∙ sym (get_or-cells_of s.message_bits message (x - i * s.message_bits) false short)
          ∙ ap (λ cs. get_or cs (x - i * s.message_bits) false) (told ∙ ap decode row)
          ∙ ap₂ (λ (q r : ℕ). get_or (decode (chunk_cells s n bytes q)) r false) (sym on.0) (sym on.1)
    ]
