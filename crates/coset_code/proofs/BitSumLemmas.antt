-- The sum of columns taken by the set bits of words.
use Rattle.std.proofs.Common.{◌≡◌, ◌≢◌, ℕ, zero, suc, ◌+◌, ◌*◌, ◌/◌, ◌%◌, ◌^◌, ◌<◌, ◌≤◌, false, cond, List, length, get_or, nat_eq, bit_xor, sym, ◌∙◌, ap, refl, inl, inr, arith}
use Rattle.std.specs.Int.{bit_at, w64, trailing_zeros}
use Rattle.std.specs.Int.Bits.{xor_assoc, xor_comm, xor_self, xor_zero_r, xor_zero_l, xor_add_and}
use Rattle.std.proofs.lemmas.Bool.{cases_lt, cases_eq, cases_order, eq-eqb, ne_eqb}
use Rattle.std.proofs.lemmas.List.{get_or_past}
use Rattle.std.proofs.lemmas.Nat.{pow_pos, one_shl}
use Rattle.std.proofs.lemmas.Nat.Bits.{bit_at-lt, bit_at-zero, and_pow, bit_at-trailing_zeros, bit_at-pow_same, bit_at-pow_other}
use Rattle.gf2_solve.proofs.XorLemmas.{xor_swap, xor-mul, xor_none, xor_once, bit_at-xor}
use Rattle.wom_code.specs.Packed.{word_bit, cells_of}
use Rattle.wom_code.proofs.PackedLemmas.{get_or-cells_of}
use Rattle.coset_code.specs.Sums.{sum_below, syndrome}

-- the sum of the columns below n by bits
pub sum_bits : List ℕ → (ℕ → ℕ) → ℕ → ℕ
sum_bits columns g zero = 0
sum_bits columns g (suc n) = bit_xor (g n * get_or columns n 0) (sum_bits columns g n)

pub sum_bits_same : (columns : List ℕ) (g h : ℕ → ℕ) (n : ℕ) → ((i : ℕ) → g i ≡ h i) → sum_bits columns g n ≡ sum_bits columns h n
unfolding sum_bits
sum_bits_same columns g h zero e = refl
sum_bits_same columns g h (suc n) e = ap (λ x. bit_xor (x * get_or columns n 0) (sum_bits columns g n)) (e n) ∙ ap (bit_xor (h n * get_or columns n 0)) (sum_bits_same columns g h n e)

pub sum_bits_none : (columns : List ℕ) (n : ℕ) → sum_bits columns (λ i. 0) n ≡ 0
unfolding sum_bits
sum_bits_none columns zero = refl
sum_bits_none columns (suc n) = xor_none 0 (get_or columns n 0) _ refl ∙ sum_bits_none columns n

-- the bit of one cell
pub only : ℕ → ℕ → ℕ
only c i = cond (nat_eq i c) 1 0

only_at : (c i : ℕ) → i ≡ c → only c i ≡ 1
unfolding only
only_at c i e = ap (λ t. cond t 1 0) (eq-eqb i c e)

only_other : (c i : ℕ) → i ≢ c → only c i ≡ 0
unfolding only
only_other c i ne = ap (λ t. cond t 1 0) (ne_eqb i c ne)

only_digit : (c i : ℕ) → only c i < 2
only_digit c i = elim (cases_eq i c) [ inl same ↦ omega (arith, only_at c i same) | inr other ↦ omega (arith, only_other c i other) ]

-- with the bit of one cell turned
pub turned : (ℕ → ℕ) → ℕ → ℕ → ℕ
turned g c i = bit_xor (g i) (only c i)

only_below : (columns : List ℕ) (c n : ℕ) → n ≤ c → sum_bits columns (only c) n ≡ 0
unfolding sum_bits
only_below columns c zero h = refl
only_below columns c (suc n) h = xor_none (only c n) (get_or columns n 0) _ (only_other c n (λ e. omega arith)) ∙ only_below columns c n (omega arith)

only_above : (columns : List ℕ) (c n : ℕ) → c < n → sum_bits columns (only c) n ≡ get_or columns c 0
unfolding sum_bits only
only_above columns c zero h = absurd (omega arith)
only_above columns c (suc n) h =
    elim (cases_lt c n) [
      | inl l ↦ xor_none (only c n) (get_or columns n 0) _ (only_other c n (λ e. omega arith)) ∙ only_above columns c n l
      | inr m ↦
          let same : n ≡ c = omega arith in
          xor_once (only c n) (get_or columns n 0) _ (only_at c n same) ∙ ap (bit_xor (get_or columns n 0)) (only_below columns c n (omega arith)) ∙ xor_zero_r (get_or columns n 0)
          ∙ ap (λ k. get_or columns k 0) same
    ]

only_sum : (columns : List ℕ) (c : ℕ) → sum_bits columns (only c) (length columns) ≡ get_or columns c 0
only_sum columns c =
    elim (cases_lt c (length columns)) [
      | inl h ↦ only_above columns c (length columns) h
      | inr h ↦ only_below columns c (length columns) h ∙ sym (get_or_past columns c 0 h)
    ]

turned_below : (columns : List ℕ) (g : ℕ → ℕ) → ((i : ℕ) → g i < 2) → (c n : ℕ) → sum_bits columns (turned g c) n ≡ bit_xor (sum_bits columns g n) (sum_bits columns (only c) n)
unfolding turned sum_bits
turned_below columns g d c zero = refl
turned_below columns g d c (suc n) =
    let v : ℕ = get_or columns n 0 in
    ap (λ x. bit_xor x (sum_bits columns (turned g c) n)) (xor-mul (g n) (only c n) v (d n) (only_digit c n))
    ∙ ap (bit_xor (bit_xor (g n * v) (only c n * v))) (turned_below columns g d c n)
    ∙ xor_swap (g n * v) (only c n * v) (sum_bits columns g n) (sum_bits columns (only c) n)

-- the charged cells, by their bits
cond_times : (b : ℕ) (v : ℕ) → b < 2 → cond (nat_eq b 1) v 0 ≡ b * v
cond_times zero v h = omega arith
cond_times (suc zero) v h = omega arith
cond_times (suc (suc b)) v h = absurd (omega arith)

sum_bits_below : (columns : List ℕ) (words : List ℕ) (n : ℕ) → n ≤ length columns → sum_below columns (cells_of (length columns) words) n ≡ sum_bits columns (word_bit words) n
unfolding sum_below sum_bits
sum_bits_below columns words zero h = refl
sum_bits_below columns words (suc n) h =
    let v : ℕ = get_or columns n 0 in
    ap (λ t. bit_xor (cond t v 0) (sum_below columns (cells_of (length columns) words) n)) (get_or-cells_of (length columns) words n false (omega arith))
    ∙ ap (λ x. bit_xor x (sum_below columns (cells_of (length columns) words) n)) (cond_times (word_bit words n) v (bit_at-lt (get_or words (n / 64) 0) (n % 64)))
    ∙ ap (bit_xor (word_bit words n * v)) (sum_bits_below columns words n (omega arith))

-- ---- bits that are still to be added

pub record IsAhead (words : List ℕ) (index : ℕ) (g : ℕ → ℕ) : Type 0 where
  pub done : (i : ℕ) → i / 64 < index → g i ≡ 0
  pub ahead : (i : ℕ) → index ≤ i / 64 → g i ≡ word_bit words i

pub record IsLeft (words : List ℕ) (index left : ℕ) (g : ℕ → ℕ) : Type 0 where
  pub done : (i : ℕ) → i / 64 < index → g i ≡ 0
  pub here : (i : ℕ) → i / 64 ≡ index → g i ≡ bit_at left (i % 64)
  pub ahead : (i : ℕ) → index < i / 64 → g i ≡ word_bit words i

-- the sum and what is still to be added make the whole
abbrev pub IsSumAhead : List ℕ → List ℕ → ℕ → ℕ → Type 0
IsSumAhead columns words index sum = (g : ℕ → ℕ) → IsAhead words index g → bit_xor sum (sum_bits columns g (length columns)) ≡ sum_bits columns (word_bit words) (length columns)

abbrev pub IsSumLeft : List ℕ → List ℕ → ℕ → ℕ → ℕ → Type 0
IsSumLeft columns words index left sum = (g : ℕ → ℕ) → IsLeft words index left g → bit_xor sum (sum_bits columns g (length columns)) ≡ sum_bits columns (word_bit words) (length columns)

pub sum_starts : (columns words : List ℕ) → IsSumAhead columns words 0 0
sum_starts columns words g a = xor_zero_l _ ∙ sum_bits_same columns g (word_bit words) (length columns) (λ i. a.ahead i (omega arith))

pub word_starts : (columns words : List ℕ) (index sum : ℕ) → IsSumAhead columns words index sum → IsSumLeft columns words index (get_or words index 0) sum
word_starts columns words index sum h g l = h g (record {
  done = l.done;
  ahead = λ i le. elim (cases_eq (i / 64) index) [
    | inl same ↦ l.here i same ∙ ap (λ k. bit_at (get_or words k 0) (i % 64)) (sym same)
    | inr other ↦ l.ahead i (omega arith)
  ];
})

pub word_ends : (columns words : List ℕ) (index sum left : ℕ) → left ≡ 0 → IsSumLeft columns words index left sum → IsSumAhead columns words (index + 1) sum
word_ends columns words index sum left z h g a = h g (record {
  done = λ i l. a.done i (omega arith);
  here = λ i e. a.done i (omega arith) ∙ sym (ap (λ x. bit_at x (i % 64)) z ∙ bit_at-zero (i % 64));
  ahead = λ i l. a.ahead i (omega arith);
})

pub sum_ends : (columns words : List ℕ) (index sum : ℕ) → length words ≤ index → IsSumAhead columns words index sum → sum ≡ syndrome columns (cells_of (length columns) words)
sum_ends columns words index sum h a =
    let none = a (λ i. 0) (record { done = λ i l. refl; ahead = λ i l. sym (ap (λ w. bit_at w (i % 64)) (get_or_past words (i / 64) 0 (omega arith)) ∙ bit_at-zero (i % 64)) }) in
    sym (ap (bit_xor sum) (sum_bits_none columns (length columns)) ∙ xor_zero_r sum) ∙ none ∙ sym (sum_bits_below columns words (length columns) (omega arith))

-- ---- the lowest bit of a word

pub record IsLowestBit (left p less : ℕ) : Type 0 where
  pub in_left : bit_at left p ≡ 1
  pub in_word : p < 64
  pub less_is : less ≡ bit_xor left (2 ^ p)
  pub smaller : less < left

pub lowest_bit : (left : ℕ) → 0 < left → left < 2 ^ 64 → IsLowestBit left (trailing_zeros w64 left) (bit_xor left (1 * 2 ^ trailing_zeros w64 left % 2 ^ 64))
lowest_bit left some fits =
    let p : ℕ = trailing_zeros w64 left in
    let t = bit_at-trailing_zeros w64 left some fits in
    let bit : bit_at left p ≡ 1 = t.1 in
    let one : 1 * 2 ^ p % 2 ^ 64 ≡ 2 ^ p = one_shl p 64 t.0 in
    let less : bit_xor left (1 * 2 ^ p % 2 ^ 64) ≡ bit_xor left (2 ^ p) = ap (bit_xor left) one in
    let both : bit_xor left (2 ^ p) + 2 ^ p * 2 ≡ left + 2 ^ p =
    ap (λ b. bit_xor left (2 ^ p) + b * 2) (sym (and_pow left p ∙ ap (λ b. b * 2 ^ p) bit ∙ omega arith)) ∙ xor_add_and left (2 ^ p) in
    record { in_left = bit; in_word = t.0; less_is = less; smaller = omega (arith, pow_pos p) }

-- a digit turned once and again
turned_digit : (x b y : ℕ) → y ≡ bit_xor x b → bit_xor y b ≡ x
turned_digit x b y e = ap (λ z. bit_xor z b) e ∙ xor_assoc x b b ∙ ap (bit_xor x) (xor_self b) ∙ xor_zero_r x

-- one bit of the word is added
pub bit_added : (columns words : List ℕ) (index left p less sum column : ℕ) → IsSumLeft columns words index left sum → IsLowestBit left p less → column ≡ get_or columns (64 * index + p) 0 →
    IsSumLeft columns words index less (bit_xor sum column)
unfolding turned
bit_added columns words index left p less sum column h l e g a =
    let c : ℕ = 64 * index + p in
    let n : ℕ = length columns in
    let word : c / 64 ≡ index = omega (arith, l.in_word) in
    let place : c % 64 ≡ p = omega (arith, l.in_word) in
    let digit : (i : ℕ) → g i < 2 = λ i. elim (cases_order (i / 64) index) [
      | inl same ↦ omega (arith, a.here i same, bit_at-lt less (i % 64))
      | inr (inl before) ↦ omega (arith, a.done i before)
      | inr (inr after) ↦ omega (arith, a.ahead i after, bit_at-lt (get_or words (i / 64) 0) (i % 64))
    ] in
    let still : (i : ℕ) → i ≢ c → turned g c i ≡ g i = λ i ne. ap (bit_xor (g i)) (only_other c i ne) ∙ xor_zero_r (g i) in
    let before : IsLeft words index left (turned g c) = record {
      done = λ i d. still i (λ same. omega (arith, word, ap (λ k. k / 64) same)) ∙ a.done i d;
      here = λ i w. elim (cases_eq (i % 64) p) [
        | inl same ↦
            let i_is : i ≡ c = omega (arith, w) in
            let less_bit : bit_at less (i % 64) ≡ bit_xor (bit_at left (i % 64)) (bit_at (2 ^ p) (i % 64)) = ap (λ x. bit_at x (i % 64)) l.less_is ∙ bit_at-xor left (2 ^ p) (i % 64) in
            let one : bit_at (2 ^ p) (i % 64) ≡ 1 = ap (bit_at (2 ^ p)) same ∙ bit_at-pow_same p in
            ap (bit_xor (g i)) (only_at c i i_is) ∙ turned_digit (bit_at left (i % 64)) 1 (g i) (a.here i w ∙ less_bit ∙ ap (bit_xor (bit_at left (i % 64))) one)
        | inr other ↦
            let ne : i ≢ c = λ i_is. other (ap (λ k. k % 64) i_is ∙ place) in
            still i ne ∙ a.here i w ∙ ap (λ x. bit_at x (i % 64)) l.less_is ∙ bit_at-xor left (2 ^ p) (i % 64)
            ∙ ap (bit_xor (bit_at left (i % 64))) (bit_at-pow_other p (i % 64) other) ∙ xor_zero_r (bit_at left (i % 64))
      ];
      ahead = λ i d. still i (λ same. omega (arith, word, ap (λ k. k / 64) same)) ∙ a.ahead i d;
    } in
    let split : sum_bits columns (turned g c) n ≡ bit_xor column (sum_bits columns g n) =
    turned_below columns g digit c n ∙ ap (bit_xor (sum_bits columns g n)) (only_sum columns c ∙ sym e) ∙ xor_comm (sum_bits columns g n) column in
    xor_assoc sum column (sum_bits columns g n) ∙ ap (bit_xor sum) (sym split) ∙ h (turned g c) before
