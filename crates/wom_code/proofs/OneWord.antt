-- Rows of at most 64 cells, which one word holds.
use Rattle.std.proofs.Common.{◌≡◌, ℕ, ◌%◌, ◌/◌, ◌^◌, ◌<◌, ◌≤◌, List, [], ◌∷◌, length, get_or, set, sym, ◌∙◌, ap, refl, inl, inr, arith}
use Rattle.std.specs.Int.{bit_at}
use Rattle.std.proofs.lemmas.Bool.{cases_lt}
use Rattle.std.proofs.lemmas.List.{get_or_past}
use Rattle.std.proofs.lemmas.Nat.Bits.{bit_at-zero, bit_at_above, bit_at_cat_low, same_from_bits}
use Rattle.std.proofs.lemmas.Nat.{mod_below, pow_pos, div-add-mod'}
use Rattle.wom_code.specs.Packed.{IsRow}

-- a number with no bit from k on
pub number_lt : (k n : ℕ) → ((i : ℕ) → k ≤ i → bit_at n i ≡ 0) → n < 2 ^ k
number_lt k n h =
    let low : n % 2 ^ k < 2 ^ k = mod_below n (2 ^ k) (pow_pos k) in
    let same : n ≡ n % 2 ^ k = same_from_bits n (n % 2 ^ k) (λ i. elim (cases_lt i k) [
      | inl l ↦ ap (λ x. bit_at x i) (sym (div-add-mod' n (2 ^ k))) ∙ bit_at_cat_low (n / 2 ^ k) k (n % 2 ^ k) i l
      | inr m ↦ h i m ∙ sym (bit_at_above (n % 2 ^ k) k i low m)
    ]) in
    omega arith

pub one_word : (n : ℕ) (words : List ℕ) → IsRow n words → n ≤ 64 → get_or words 0 0 < 2 ^ 64 → get_or words 0 0 < 2 ^ n
one_word n words r h fits = number_lt n (get_or words 0 0) (λ i m. elim (cases_lt i 64) [
  | inl l ↦
      let q : i / 64 ≡ 0 = omega arith in
      let p : i % 64 ≡ i = omega arith in
      sym (ap (λ k. bit_at (get_or words k 0) (i % 64)) q ∙ ap (bit_at (get_or words 0 0)) p) ∙ r.padding i m
  | inr k ↦ bit_at_above (get_or words 0 0) 64 i fits k
])

pub word_alone : (words : List ℕ) → length words ≡ 1 → words ≡ get_or words 0 0 ∷ []
word_alone [] e = absurd (omega arith)
word_alone (w ∷ []) e = refl
word_alone (w ∷ x ∷ xs) e = absurd (omega arith)

pub set_alone : (words : List ℕ) (w : ℕ) → length words ≡ 1 → set words 0 w ≡ w ∷ []
set_alone [] w e = absurd (omega arith)
set_alone (x ∷ []) w e = refl
set_alone (x ∷ y ∷ xs) w e = absurd (omega arith)

-- a word of n bits is a row
pub row_alone : (n w : ℕ) → 0 < n → n ≤ 64 → w < 2 ^ n → IsRow n (w ∷ [])
row_alone n w some h fits = record {
  count = omega arith;
  padding = λ i m. elim (cases_lt i 64) [
    | inl l ↦
        let q : i / 64 ≡ 0 = omega arith in
        let p : i % 64 ≡ i = omega arith in
        ap (λ k. bit_at (get_or (w ∷ []) k 0) (i % 64)) q ∙ ap (bit_at w) p ∙ bit_at_above w n i fits m
    | inr k ↦ ap (λ x. bit_at x (i % 64)) (get_or_past (w ∷ []) (i / 64) 0 (omega arith)) ∙ bit_at-zero (i % 64)
  ];
}
