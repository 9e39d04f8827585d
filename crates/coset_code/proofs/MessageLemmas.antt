-- Numbers below 2 ^ 128 and the messages of their bits.
use Rattle.std.proofs.Common.{◌≡◌, ℕ, zero, suc, ◌+◌, ◌-◌, ◌*◌, ◌/◌, ◌%◌, ◌^◌, ◌<◌, ◌≤◌, Bool, false, List, length, get_or, bit_or, nat_eq, sym, ◌∙◌, ap, refl, inl, inr, arith}
use Rattle.std.specs.Int.{bit_at}
use Rattle.std.proofs.lemmas.Bool.{cases_lt}
use Rattle.std.proofs.lemmas.List.{get_or_past, ext_get_or}
use Rattle.std.proofs.lemmas.List.FromFn.{length-map-range_with_len, get_or-map-range_with_len}
use Rattle.std.proofs.lemmas.Nat.{or_shifted, shl_whole, shr-shr, mod_below, div-add-mod'}
use Rattle.std.proofs.lemmas.Nat.Bits.{bit_at-zero, bit_at_above, bit_at_cat_low, bit_at_cat_high, bit_at-lt, same_from_bits_below}
use Rattle.wom_code.specs.Packed.{word_bit, cells_of}
use Rattle.wom_code.proofs.PackedLemmas.{get_or-cells_of, length-cells_of}
use Rattle.coset_code.specs.Sums.{bits_of}

-- the word and the place of a bit
pub bit_in : (words : List ℕ) (i q : ℕ) → i / 64 ≡ q → word_bit words i ≡ bit_at (get_or words q 0) (i - 64 * q)
bit_in words i q e =
    let r : i % 64 ≡ i - 64 * q = omega arith in
    ap (λ k. bit_at (get_or words k 0) (i % 64)) e ∙ ap (bit_at (get_or words q 0)) r

past : (words : List ℕ) (i : ℕ) → length words ≤ i / 64 → word_bit words i ≡ 0
past words i h = ap (λ w. bit_at w (i % 64)) (get_or_past words (i / 64) 0 h) ∙ bit_at-zero (i % 64)

pub bits_of_one : (words : List ℕ) → length words ≡ 1 → get_or words 0 0 < 2 ^ 64 → (i : ℕ) → bit_at (get_or words 0 0) i ≡ word_bit words i
bits_of_one words len fits i =
    elim (cases_lt i 64) [
      | inl h ↦ let r : i - 64 * 0 ≡ i = omega arith in sym (bit_in words i 0 (omega arith) ∙ ap (bit_at (get_or words 0 0)) r)
      | inr h ↦ bit_at_above (get_or words 0 0) 64 i fits h ∙ sym (past words i (omega arith))
    ]

pub bits_of_two : (words : List ℕ) → length words ≡ 2 → get_or words 0 0 < 2 ^ 64 → get_or words 1 0 < 2 ^ 64 → (i : ℕ) →
    bit_at (bit_or (get_or words 1 0 * 2 ^ 64 % 2 ^ 128) (get_or words 0 0)) i ≡ word_bit words i
bits_of_two words len low high i =
    let a : ℕ = get_or words 1 0 in
    let b : ℕ = get_or words 0 0 in
    let joined : bit_or (a * 2 ^ 64 % 2 ^ 128) b ≡ a * 2 ^ 64 + b = ap (λ x. bit_or x b) (shl_whole a 64 64 128 high (omega arith)) ∙ or_shifted a 64 b low in
    ap (λ x. bit_at x i) joined
    ∙ elim (cases_lt i 64) [
      | inl h ↦ let r : i - 64 * 0 ≡ i = omega arith in bit_at_cat_low a 64 b i h ∙ sym (bit_in words i 0 (omega arith) ∙ ap (bit_at b) r)
      | inr h ↦ bit_at_cat_high a 64 b i low h ∙ elim (cases_lt i 128) [
        | inl k ↦ let r : i - 64 * 1 ≡ i - 64 = omega arith in sym (bit_in words i 1 (omega arith) ∙ ap (bit_at a) r)
        | inr k ↦ bit_at_above a 64 (i - 64) high (omega arith) ∙ sym (past words i (omega arith))
      ]
    ]

-- a word of a number has the number's bits
pub bits_of_written : (number : ℕ) (words : List ℕ) → number < 2 ^ (64 * length words) → ((k : ℕ) → k < length words → get_or words k 0 ≡ number / 2 ^ (64 * k) % 2 ^ 64) →
    (i : ℕ) → word_bit words i ≡ bit_at number i
bits_of_written number words fits written i =
    elim (cases_lt (i / 64) (length words)) [
      | inl h ↦
          let k : ℕ = i / 64 in
          let n : ℕ = number / 2 ^ (64 * k) in
          let place : 64 * k + i % 64 ≡ i = omega arith in
          ap (λ w. bit_at w (i % 64)) (written k h)
          ∙ sym (bit_at_cat_low (n / 2 ^ 64) 64 (n % 2 ^ 64) (i % 64) (mod_below i 64 (omega arith)))
          ∙ ap (λ w. bit_at w (i % 64)) (div-add-mod' n (2 ^ 64))
          ∙ ap (λ w. w % 2) (shr-shr number (64 * k) (i % 64) ∙ ap (λ e. number / 2 ^ e) place)
      | inr h ↦ past words i h ∙ sym (bit_at_above number (64 * length words) i fits (omega arith))
    ]

pub length-bits_of : (k n : ℕ) → length (bits_of k n) ≡ k
unfolding bits_of
length-bits_of k n = length-map-range_with_len (λ i. nat_eq (bit_at n i) 1) 0 k

pub get_or-bits_of : (k n i : ℕ) → i < k → get_or (bits_of k n) i false ≡ nat_eq (bit_at n i) 1
unfolding bits_of
get_or-bits_of k n i h = get_or-map-range_with_len (λ j. nat_eq (bit_at n j) 1) 0 k i i false h (omega arith)

pub same_bits : (k n : ℕ) (bits : List Bool) → length bits ≡ k → ((i : ℕ) → i < k → get_or bits i false ≡ nat_eq (bit_at n i) 1) → bits ≡ bits_of k n
same_bits k n bits len h =
    ext_get_or false bits (bits_of k n) (len ∙ sym (length-bits_of k n)) (λ i l. h i (omega arith) ∙ sym (get_or-bits_of k n i (omega arith)))

-- a packed row that has the bits of a number
pub cells_of_number : (k n : ℕ) (words : List ℕ) → ((i : ℕ) → word_bit words i ≡ bit_at n i) → cells_of k words ≡ bits_of k n
cells_of_number k n words h =
    same_bits k n (cells_of k words) (length-cells_of k words) (λ i l. get_or-cells_of k words i false l ∙ ap (λ b. nat_eq b 1) (h i))

same_digit : (x y : ℕ) → x < 2 → y < 2 → nat_eq x 1 ≡ nat_eq y 1 → x ≡ y
same_digit zero zero p q e = refl
same_digit (suc zero) (suc zero) p q e = refl
same_digit zero (suc zero) p q e = cc
same_digit (suc zero) zero p q e = cc
same_digit (suc (suc x)) y p q e = absurd (omega arith)
same_digit x (suc (suc y)) p q e = absurd (omega arith)

-- numbers of k bits are told apart by them
pub bits_of_injective : (k a b : ℕ) → a < 2 ^ k → b < 2 ^ k → bits_of k a ≡ bits_of k b → a ≡ b
bits_of_injective k a b p q e =
    same_from_bits_below k a b p q
    (λ i h. same_digit (bit_at a i) (bit_at b i) (bit_at-lt a i) (bit_at-lt b i)
    (sym (get_or-bits_of k a i h) ∙ ap (λ bs. get_or bs i false) e ∙ get_or-bits_of k b i h))
