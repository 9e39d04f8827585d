-- A set of blocks by its words: what one word that is written changes, and where the lowest block stands.
use Rattle.std.proofs.Common.{◌≡◌, ℕ, ◌+◌, ◌*◌, ◌/◌, ◌%◌, ◌^◌, ◌<◌, ◌≤◌, inl, inr, Bool, false, eqb, w64, List, length, get_or, set, refl, sym, ap, ◌∙◌, subst, arith, get_or-set_same}
use Rattle.std.proofs.Common.{get_or-set_other}
use Rattle.std.specs.Int.{bit_at, trailing_zeros}
use Rattle.std.proofs.lemmas.Bool.{cases_eq, cases_lt, eq-eqb, ne_eqb}
use Rattle.std.proofs.lemmas.List.{get_or_past}
use Rattle.std.proofs.lemmas.Nat.Bits.{bit_at-zero, bit_at-trailing_zeros}
use Rattle.block_state.specs.BlockSet.{has, IsPut, IsLowestIn}

-- a block by its word and its bit
same_block : (b c : ℕ) → c / 64 ≡ b / 64 → c % 64 ≡ b % 64 → c ≡ b
same_block b c word bit = omega arith

-- one bit of one word is written
module _ (words : List ℕ) (b w : ℕ) (x : Bool) (within : b / 64 < length words) where
  pub put_word : eqb (bit_at w (b % 64)) 1 ≡ x → ((i : ℕ) → i < 64 → (i ≡ b % 64 → ⊥) → bit_at w i ≡ bit_at (get_or words (b / 64) 0) i) → IsPut words b x (set words (b / 64) w)
  put_word here others c = elim (cases_eq c b) [
    | inl same ↦ rw (eq-eqb c b same) (subst (λ (d : ℕ). has (set words (b / 64) w) d ≡ x) (sym same) (rw (get_or-set_same words (b / 64) w 0 within) here))
    | inr other ↦ rw (ne_eqb c b other) (elim (cases_eq (c / 64) (b / 64)) [
      | inl word ↦ there c word (λ bit. other (same_block b c word bit))
      | inr apart ↦ ap (λ n. eqb (bit_at n (c % 64)) 1) (get_or-set_other words (b / 64) (c / 64) w 0 apart)
    ])
  ]
    where
      there : (c : ℕ) → c / 64 ≡ b / 64 → (c % 64 ≡ b % 64 → ⊥) → has (set words (b / 64) w) c ≡ has words c
      there c word bit =
          let written : get_or (set words (b / 64) w) (c / 64) 0 ≡ w = ap (λ k. get_or (set words (b / 64) w) k 0) word ∙ get_or-set_same words (b / 64) w 0 within in
          let before : get_or words (c / 64) 0 ≡ get_or words (b / 64) 0 = ap (λ k. get_or words k 0) word in
          ap (λ n. eqb (bit_at n (c % 64)) 1) written ∙ ap (λ n. eqb n 1) (others (c % 64) (omega arith) bit ∙ ap (λ n. bit_at n (c % 64)) (sym before))

-- where a word is 0, none of its blocks is in the set
none_at_zero : (words : List ℕ) (c : ℕ) → get_or words (c / 64) 0 ≡ 0 → has words c ≡ false
none_at_zero words c zero = rw zero (ap (λ n. eqb n 1) (bit_at-zero (c % 64)))

-- the lowest bit of the first word that is not 0
module _ (words : List ℕ) (k : ℕ) (some : 0 < get_or words k 0) (fits : get_or words k 0 < 2 ^ 64) (zeros : (j : ℕ) → j < k → get_or words j 0 ≡ 0) where
  pub lowest_in : IsLowestIn words (64 * k + trailing_zeros w64 (get_or words k 0))
  lowest_in =
      let t : ℕ = trailing_zeros w64 (get_or words k 0) in
      let is = bit_at-trailing_zeros w64 (get_or words k 0) some fits in
      let word : (64 * k + t) / 64 ≡ k = omega (arith, is.0) in
      let bit : (64 * k + t) % 64 ≡ t = omega (arith, is.0) in (
        rw (word, bit, is.1) refl,
        λ c below. elim (cases_lt (c / 64) k) [
          | inl before ↦ none_at_zero words c (zeros (c / 64) before)
          | inr from ↦
              let same : c / 64 ≡ k = omega (arith, is.0) in
              rw (same, is.2 (c % 64) (omega (arith, is.0))) refl
        ],
      )

pub none_in : (words : List ℕ) (k : ℕ) → length words ≤ k → ((j : ℕ) → j < k → get_or words j 0 ≡ 0) → (c : ℕ) → has words c ≡ false
none_in words k all zeros c = none_at_zero words c (elim (cases_lt (c / 64) k) [
  | inl below ↦ zeros (c / 64) below
  | inr past ↦ get_or_past words (c / 64) 0 (omega arith)
])
