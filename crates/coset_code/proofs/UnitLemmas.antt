-- A number by the coordinates of its bits.
use Rattle.std.proofs.Common.{◌≡◌, ◌≢◌, ℕ, zero, suc, ◌*◌, ◌/◌, ◌%◌, ◌^◌, ◌<◌, ◌≤◌, Bool, true, false, cond, nat_eq, List, length, map, get_or, bit_xor, bit_or, sym, ◌∙◌, ap, refl, inl, inr, arith}
use Rattle.std.specs.Int.{bit_at}
use Rattle.std.specs.Int.Bits.{xor_comm, xor_zero_r}
use Rattle.std.specs.List.{range_with_len}
use Rattle.std.proofs.lemmas.Bool.{cases_lt, cases_eq}
use Rattle.std.proofs.lemmas.List.{get_or_past}
use Rattle.std.proofs.lemmas.List.FromFn.{length-map-range_with_len, get_or-map-range_with_len}
use Rattle.std.proofs.lemmas.Nat.Bits.{bit_at-zero, bit_at-pow_same, bit_at-pow_other, same_from_bits}
use Rattle.gf2_solve.specs.Span.{subset_sum}
use Rattle.gf2_solve.proofs.XorLemmas.{bit_at-xor}
use Rattle.gf2_solve.proofs.SpanLemmas.{subset_sum-xor, subset_sum-zero}
use Rattle.wom_code.specs.Cells.{cell_at}
use Rattle.wom_code.specs.Packed.{word_bit, words_for, cells_of}
use Rattle.wom_code.proofs.PackedLemmas.{get_or-cells_of, word_bit-lt}
use Rattle.coset_code.specs.Sums.{sum_below}
use Rattle.coset_code.proofs.MessageLemmas.{bits_of_one, bits_of_two}
use Rattle.coset_code.proofs.ChangeOfBasis.{sum_below_linear}

-- ---- sums of powers of two

-- the bits of a sum are the charged cells
record IsSumOfPowers (cells : List Bool) (s n : ℕ) : Type 0 where
  here : (i : ℕ) → i < n → bit_at s i ≡ cond (cell_at cells i) 1 0
  none : (i : ℕ) → n ≤ i → bit_at s i ≡ 0

term_here : (c : Bool) (v n : ℕ) → v ≡ 2 ^ n → bit_at (cond c v 0) n ≡ cond c 1 0
term_here true v n e = ap (λ x. bit_at x n) e ∙ bit_at-pow_same n
term_here false v n e = bit_at-zero n

term_beside : (c : Bool) (v n i : ℕ) → v ≡ 2 ^ n → i ≢ n → bit_at (cond c v 0) i ≡ 0
term_beside true v n i e other = ap (λ x. bit_at x i) e ∙ bit_at-pow_other n i other
term_beside false v n i e other = bit_at-zero i

sum_of_powers : (columns : List ℕ) (cells : List Bool) (n : ℕ) → ((k : ℕ) → k < n → get_or columns k 0 ≡ 2 ^ k) → IsSumOfPowers cells (sum_below columns cells n) n
unfolding sum_below
sum_of_powers columns cells zero h = record { here = λ i l. absurd (omega arith); none = λ i l. bit_at-zero i }
sum_of_powers columns cells (suc n) h =
    let before : IsSumOfPowers cells (sum_below columns cells n) n = sum_of_powers columns cells n (λ k l. h k (omega arith)) in
    let t : ℕ = cond (cell_at cells n) (get_or columns n 0) 0 in
    let s : ℕ = sum_below columns cells n in
    let e : get_or columns n 0 ≡ 2 ^ n = h n (omega arith) in
    record {
      here = λ i l. bit_at-xor t s i ∙ elim (cases_eq i n) [
        | inl same ↦
            ap (λ x. bit_xor x (bit_at s i)) (ap (bit_at t) same ∙ term_here (cell_at cells n) (get_or columns n 0) n e)
            ∙ ap (bit_xor (cond (cell_at cells n) 1 0)) (before.none i (omega arith))
            ∙ xor_zero_r (cond (cell_at cells n) 1 0)
            ∙ ap (λ k. cond (cell_at cells k) 1 0) (sym same)
        | inr other ↦
            ap (λ x. bit_xor x (bit_at s i)) (term_beside (cell_at cells n) (get_or columns n 0) n i e other)
            ∙ xor_comm 0 (bit_at s i) ∙ xor_zero_r (bit_at s i) ∙ before.here i (omega arith)
      ];
      none = λ i l.
          bit_at-xor t s i
          ∙ ap (λ x. bit_xor x (bit_at s i)) (term_beside (cell_at cells n) (get_or columns n 0) n i e (omega arith))
          ∙ xor_comm 0 (bit_at s i) ∙ xor_zero_r (bit_at s i) ∙ before.none i (omega arith);
    }

powers : ℕ → List ℕ
powers n = map (λ i. 2 ^ i) (range_with_len 0 n)

power_at : (n i : ℕ) → i < n → get_or (powers n) i 0 ≡ 2 ^ i
unfolding powers
power_at n i h = get_or-map-range_with_len (λ k. 2 ^ k) 0 n i i 0 h (omega arith)

power_past : (n i : ℕ) → n ≤ i → get_or (powers n) i 0 ≡ 0
unfolding powers
power_past n i h = get_or_past (map (λ k. 2 ^ k) (range_with_len 0 n)) i 0 (omega (arith, length-map-range_with_len (λ (k : ℕ). 2 ^ k) 0 n))

as_bit : (b : ℕ) → b < 2 → cond (nat_eq b 1) 1 0 ≡ b
as_bit zero h = refl
as_bit (suc zero) h = refl
as_bit (suc (suc b)) h = absurd (omega arith)

-- ---- the number of a message

pub number_of_units : (units vectors message : List ℕ) (number n : ℕ) → n ≡ 128 → length units ≡ n → length message ≡ 2 → ((b : ℕ) → b < 128 → subset_sum (get_or units b 0) vectors ≡ 2 ^ b) →
    ((i : ℕ) → bit_at number i ≡ word_bit message i) → subset_sum (sum_below units (cells_of n message) n) vectors ≡ number
number_of_units units vectors message number n size len words u bits =
    let f : ℕ → ℕ = λ x. subset_sum x vectors in
    let cells : List Bool = cells_of n message in
    let same : (i : ℕ) → get_or (powers n) i 0 ≡ f (get_or units i 0) = λ i. elim (cases_lt i n) [
      | inl l ↦ power_at n i l ∙ sym (u i (omega arith))
      | inr m ↦ power_past n i m ∙ sym (ap f (get_or_past units i 0 (omega arith)) ∙ subset_sum-zero vectors)
    ] in
    let linear : sum_below (powers n) cells n ≡ f (sum_below units cells n) = sum_below_linear f (subset_sum-zero vectors) (λ a b. subset_sum-xor a b vectors) units (powers n) same cells n in
    let sum : IsSumOfPowers cells (sum_below (powers n) cells n) n = sum_of_powers (powers n) cells n (λ k l. power_at n k l) in
    sym linear ∙ same_from_bits (sum_below (powers n) cells n) number (λ i. elim (cases_lt i n) [
      | inl l ↦ sum.here i l ∙ ap (λ c. cond c 1 0) (get_or-cells_of n message i false l) ∙ as_bit (word_bit message i) (word_bit-lt message i) ∙ sym (bits i)
      | inr m ↦ sum.none i m ∙ sym (bits i ∙ ap (λ w. bit_at w (i % 64)) (get_or_past message (i / 64) 0 (omega arith)) ∙ bit_at-zero (i % 64))
    ])

pub number_there : (k : ℕ) (message : List ℕ) → length message ≡ words_for k → 0 < k → k ≤ 128 → ((i : ℕ) → get_or message i 0 < 2 ^ 64)
    → (number : ℕ) × ((i : ℕ) → bit_at number i ≡ word_bit message i)
number_there k message len some most fits = elim (cases_lt (length message) 2) [
  | inl l ↦ (get_or message 0 0, bits_of_one message (omega arith) (fits 0))
  | inr m ↦ (bit_or (get_or message 1 0 * 2 ^ 64 % 2 ^ 128) (get_or message 0 0), bits_of_two message (omega arith) (fits 0) (fits 1))
]
