-- A page with no charged cell has blank slots, no header and no charged gate.
use Rattle.std.proofs.Common.{◌≡◌, ℕ, zero, suc, ◌+◌, ◌-◌, ◌*◌, true, List, [], ◌∷◌, take, drop, ◌==◌, Some, refl, arith}
use Rattle.std.specs.Prelude.{slice_index}
use Rattle.std.proofs.lemmas.Bool.{and_parts, and_from, eqb-true, eq-eqb}
use Rattle.zero_count.specs.declared.Header.{Header}
use Rattle.zero_count.specs.HeaderWord.{header_of}
use Rattle.zero_count.proofs.ValidWords.{valid_parts}
use Rattle.cell_die.specs.Cells.{is_blank}
use Rattle.spare_gate.specs.Slots.{word_at, is_slot_blank}
use Rattle.page_codec.proofs.Within.{header_valid}

pub blank_drop : (n : ℕ) (row : List ℕ) → is_blank row ≡ true → is_blank (drop n row) ≡ true
blank_drop zero row h = h
blank_drop (suc n) [] h = refl
blank_drop (suc n) (x ∷ xs) h = blank_drop n xs (and_parts (x == 0) (is_blank xs) h).1

pub blank_take : (n : ℕ) (row : List ℕ) → is_blank row ≡ true → is_blank (take n row) ≡ true
blank_take zero row h = refl
blank_take (suc n) [] h = refl
blank_take (suc n) (x ∷ xs) h = and_from (x == 0) (is_blank (take n xs)) (and_parts (x == 0) (is_blank xs) h).0 (blank_take n xs (and_parts (x == 0) (is_blank xs) h).1)

pub blank_byte : (row : List ℕ) (k : ℕ) → is_blank row ≡ true → slice_index row k ≡ 0
blank_byte [] k h = refl
blank_byte (x ∷ xs) zero h = eqb-true x 0 (and_parts (x == 0) (is_blank xs) h).0
blank_byte (x ∷ xs) (suc k) h = blank_byte xs k (and_parts (x == 0) (is_blank xs) h).1

blank_word : (m slot : ℕ) (row : List ℕ) → is_blank row ≡ true → is_blank (word_at (drop m row) slot) ≡ true
blank_word m slot row h = blank_take (16 * slot + 15 - (16 * slot + 1)) (drop (16 * slot + 1) (drop m row)) (blank_drop (16 * slot + 1) (drop m row) (blank_drop m row h))

pub blank_slot : (m slot : ℕ) (row : List ℕ) → is_blank row ≡ true → is_slot_blank (drop m row) slot ≡ true
blank_slot m slot row h = and_from _ _ (eq-eqb (slice_index (drop m row) (16 * slot)) 0 (blank_byte (drop m row) (16 * slot) (blank_drop m row h))) (blank_word m slot row h)

pub blank_header : (m slot : ℕ) (row : List ℕ) (h : Header) → is_blank row ≡ true → header_of (word_at (drop m row) slot) ≡ Some h → ⊥
blank_header m slot row h blank e =
    let kind : slice_index (word_at (drop m row) slot) 12 ≡ 0 = blank_byte (word_at (drop m row) slot) 12 (blank_word m slot row blank) in
    let valid = valid_parts (word_at (drop m row) slot) (header_valid (word_at (drop m row) slot) h e) in
    omega (arith, valid)
