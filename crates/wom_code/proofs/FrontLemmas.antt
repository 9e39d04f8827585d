-- The first bits of a packed row, word by word, as cells that are turned or not.
use Rattle.std.proofs.Common.{◌≡◌, ◌≢◌, ℕ, zero, suc, ◌+◌, ◌-◌, ◌*◌, ◌/◌, ◌%◌, ◌^◌, ◌<◌, ◌≤◌, Bool, true, false, not, cond, if◌then◌else◌, List, ◌++◌, length, get_or, set, drop, max, min}
use Rattle.std.proofs.Common.{bit_and, bit_or, bit_xor, nat_eq, nat_lt, sym, ◌∙◌, ap, refl, inl, inr, arith}
use Rattle.std.specs.Int.{bit_at}
use Rattle.std.proofs.lemmas.Bool.{cases_lt, lt-ltb, le-ltb, eqb-true, true≢false}
use Rattle.std.proofs.lemmas.List.{get_or_append_left, get_or-append_right, get_or-drop, length-append, length-drop, get_or_past}
use Rattle.std.proofs.lemmas.Nat.Bits.{bit_at_and, bit_at_or, bit_at_xor, bit_at-lt, same_from_bits_below, bit_at_ones, bit_at_ones_above}
use Rattle.std.proofs.lemmas.Nat.{or_lt}
use Rattle.wom_code.specs.Cells.{cell_at, IsAbove}
use Rattle.wom_code.specs.Packed.{IsRow, word_bit, cells_of}
use Rattle.wom_code.specs.Turned.{turned_by, front_bit}
use Rattle.wom_code.proofs.PackedLemmas.{get_or-cells_of, length-cells_of, in_word, past_words, word_bit-lt, set_word_same, set_word_other, same_cells}
use Rattle.wom_code.proofs.TurnedLemmas.{length-turned, cell_at-turned}

-- ---- one word

-- the ones below a count, in one word
pub ones_below : (k first i : ℕ) → k ≤ 64 → bit_at (2 ^ k - 1) i ≡ cond (nat_lt (first + i) (first + k)) 1 0
ones_below k first i h =
    elim (cases_lt i k) [
      | inl l ↦ bit_at_ones k i l ∙ sym (ap (λ t. cond t 1 0) (lt-ltb (first + i) (first + k) (omega arith)))
      | inr m ↦ bit_at_ones_above k i m ∙ sym (ap (λ t. cond t 1 0) (le-ltb (first + i) (first + k) (omega arith)))
    ]

-- a bit under a mask, and the same turned within the mask
masked_bit : (b : ℕ) (t : Bool) → b < 2 → min b (cond t 1 0) ≡ (if t then b else 0)
masked_bit b true h = omega arith
masked_bit b false h = omega arith

turned_bit : (b : ℕ) (t : Bool) → b < 2 → (min b (cond t 1 0) + cond t 1 0) % 2 ≡ (if t then 1 - b else 0)
turned_bit zero true h = refl
turned_bit (suc zero) true h = refl
turned_bit (suc (suc b)) true h = absurd (omega arith)
turned_bit b false h = omega arith

under_mask : (words : List ℕ) (q i k mask : ℕ) → i / 64 ≡ q → ((j : ℕ) → j < 64 → bit_at mask j ≡ cond (nat_lt (64 * q + j) k) 1 0) →
    (bit_at (bit_and (get_or words q 0) mask) (i % 64) ≡ min (word_bit words i) (cond (nat_lt i k) 1 0)) × (bit_at mask (i % 64) ≡ cond (nat_lt i k) 1 0)
under_mask words q i k mask e bits =
    let place : 64 * q + i % 64 ≡ i = omega arith in
    let bit : bit_at mask (i % 64) ≡ cond (nat_lt i k) 1 0 = bits (i % 64) (omega arith) ∙ ap (λ m. cond (nat_lt m k) 1 0) place in
    (bit_at_and (get_or words q 0) mask (i % 64) ∙ ap (λ b. min b (bit_at mask (i % 64))) (in_word words q i e) ∙ ap (min (word_bit words i)) bit, bit)

pub straight_word : (words : List ℕ) (q i k mask : ℕ) → i / 64 ≡ q → ((j : ℕ) → j < 64 → bit_at mask j ≡ cond (nat_lt (64 * q + j) k) 1 0) →
    bit_at (bit_and (get_or words q 0) mask) (i % 64) ≡ front_bit false k words i
straight_word words q i k mask e bits = (under_mask words q i k mask e bits).0 ∙ masked_bit (word_bit words i) (nat_lt i k) (word_bit-lt words i)

pub turned_word : (words : List ℕ) (q i k mask : ℕ) → i / 64 ≡ q → ((j : ℕ) → j < 64 → bit_at mask j ≡ cond (nat_lt (64 * q + j) k) 1 0) →
    bit_at (bit_xor (bit_and (get_or words q 0) mask) mask) (i % 64) ≡ front_bit true k words i
turned_word words q i k mask e bits =
    let parts = under_mask words q i k mask e bits in
    bit_at_xor (bit_and (get_or words q 0) mask) mask (i % 64)
    ∙ ap (λ b. (b + bit_at mask (i % 64)) % 2) parts.0
    ∙ ap (λ m. (min (word_bit words i) (cond (nat_lt i k) 1 0) + m) % 2) parts.1
    ∙ turned_bit (word_bit words i) (nat_lt i k) (word_bit-lt words i)

-- ---- bits and cells

turned_digit : (f : Bool) (b : ℕ) → b < 2 → nat_eq (if f then 1 - b else b) 1 ≡ (if f then not (nat_eq b 1) else nat_eq b 1)
turned_digit true zero h = refl
turned_digit true (suc zero) h = refl
turned_digit true (suc (suc b)) h = absurd (omega arith)
turned_digit false b h = refl

front_cell : (f : Bool) (k : ℕ) (words : List ℕ) (i : ℕ) → i < k → nat_eq (front_bit f k words i) 1 ≡ cell_at (turned_by f (cells_of k words)) i
front_cell f k words i l =
    ap (λ t. nat_eq (if t then (if f then 1 - word_bit words i else word_bit words i) else 0) 1) (lt-ltb i k l)
    ∙ turned_digit f (word_bit words i) (word_bit-lt words i)
    ∙ sym (cell_at-turned f (cells_of k words) i (omega (arith, length-cells_of k words)) ∙ ap (λ c. if f then not c else c) (get_or-cells_of k words i false l))

front_past : (f : Bool) (k : ℕ) (words : List ℕ) (i : ℕ) → k ≤ i → front_bit f k words i ≡ 0
front_past f k words i m = ap (λ t. if t then (if f then 1 - word_bit words i else word_bit words i) else 0) (le-ltb i k m)

digit-lt : (t f : Bool) (b : ℕ) → b < 2 → (if t then (if f then 1 - b else b) else 0) < 2
digit-lt true true b h = omega arith
digit-lt true false b h = h
digit-lt false f b h = omega arith

front_bit-lt : (f : Bool) (k : ℕ) (words : List ℕ) (i : ℕ) → front_bit f k words i < 2
front_bit-lt f k words i = digit-lt (nat_lt i k) f (word_bit words i) (word_bit-lt words i)

-- a bit of the first ones that is a one
front_one : (k : ℕ) (words : List ℕ) (i : ℕ) → front_bit false k words i ≡ 1 → (i < k) × (word_bit words i ≡ 1)
front_one k words i e =
    elim (cases_lt i k) [
      | inl l ↦ (l, sym (ap (λ t. if t then word_bit words i else 0) (lt-ltb i k l)) ∙ e)
      | inr m ↦ let none : front_bit false k words i ≡ 0 = front_past false k words i m in absurd (omega arith)
    ]

-- ---- taking them

pub taken_more : (f : Bool) (k : ℕ) (words out : List ℕ) (q x : ℕ) → q < length out → ((i : ℕ) → i / 64 ≡ q → bit_at x (i % 64) ≡ front_bit f k words i) →
    ((i : ℕ) → i / 64 < q → word_bit out i ≡ front_bit f k words i) → (i : ℕ) → i / 64 < q + 1 → word_bit (set out q x) i ≡ front_bit f k words i
taken_more f k words out q x l bits before i h =
    elim (cases_lt (i / 64) q) [
      | inl m ↦ set_word_other out q x i (omega arith) ∙ before i m
      | inr m ↦ let e : i / 64 ≡ q = omega arith in set_word_same out q x i l e ∙ bits i e
    ]

pub taken_row : (f : Bool) (k : ℕ) (words out : List ℕ) → length out ≡ (k + 63) / 64 → ((i : ℕ) → i / 64 < length out → word_bit out i ≡ front_bit f k words i) → IsRow k out
taken_row f k words out len h = record {
  count = len;
  padding = λ i m. elim (cases_lt (i / 64) (length out)) [ inl l ↦ h i l ∙ front_past f k words i m | inr n ↦ past_words out i n ];
}

pub taken_cells : (f : Bool) (k : ℕ) (words out : List ℕ) → ((i : ℕ) → i < k → word_bit out i ≡ front_bit f k words i) → cells_of k out ≡ turned_by f (cells_of k words)
taken_cells f k words out h =
    sym (same_cells k out (turned_by f (cells_of k words)) (length-turned f (cells_of k words) ∙ length-cells_of k words)
    (λ i l. sym (ap (λ b. nat_eq b 1) (h i l) ∙ front_cell f k words i l)))

-- ---- above the old ones

pub above_from_bits : (f : Bool) (k : ℕ) (old bits : List ℕ) → ((i : ℕ) → i < k → word_bit old i ≡ 1 → front_bit f k bits i ≡ 1) → IsAbove (turned_by f (cells_of k bits)) (cells_of k old)
above_from_bits f k old bits h i e =
    elim (cases_lt i k) [
      | inl l ↦ sym (front_cell f k bits i l) ∙ ap (λ b. nat_eq b 1) (h i l (eqb-true _ _ (sym (get_or-cells_of k old i false l) ∙ e)))
      | inr m ↦ absurd (true≢false (sym e ∙ get_or_past (cells_of k old) i false (omega (arith, length-cells_of k old))))
    ]

bits_from_above : (f : Bool) (k : ℕ) (old bits : List ℕ) → IsAbove (turned_by f (cells_of k bits)) (cells_of k old) → (i : ℕ) → i < k → word_bit old i ≡ 1 → front_bit f k bits i ≡ 1
bits_from_above f k old bits a i l e = eqb-true _ _ (front_cell f k bits i l ∙ a i (get_or-cells_of k old i false l ∙ ap (λ b. nat_eq b 1) e))

digit_within : (x y : ℕ) → x < 2 → y < 2 → (x ≡ 1 → y ≡ 1) → max x y ≡ y
digit_within zero y p q h = omega arith
digit_within (suc zero) y p q h = omega (arith, h refl)
digit_within (suc (suc x)) y p q h = absurd (omega arith)

-- a word whose bits do not hold the old ones
pub word_over : (f : Bool) (k : ℕ) (old bits : List ℕ) (q kept word : ℕ) → kept < 2 ^ 64 → word < 2 ^ 64 → ((i : ℕ) → i / 64 ≡ q → bit_at kept (i % 64) ≡ front_bit false k old i) →
    ((i : ℕ) → i / 64 ≡ q → bit_at word (i % 64) ≡ front_bit f k bits i) → bit_or kept word ≢ word → IsAbove (turned_by f (cells_of k bits)) (cells_of k old) → ⊥
word_over f k old bits q kept word a b olds news differs above =
    differs (same_from_bits_below 64 (bit_or kept word) word (or_lt 64 kept word a b) b (λ j h.
    let i : ℕ = 64 * q + j in
    let place : i / 64 ≡ q = omega arith in
    let bit : i % 64 ≡ j = omega arith in
    bit_at_or kept word j
    ∙ digit_within _ _ (bit_at-lt kept j) (bit_at-lt word j) (λ e.
    let one = front_one k old i (sym (olds i place) ∙ ap (bit_at kept) bit ∙ e) in
    ap (bit_at word) (sym bit) ∙ news i place ∙ bits_from_above f k old bits above i one.0 one.1)))

-- a word whose bits hold the old ones
pub within_more : (f : Bool) (k : ℕ) (old bits : List ℕ) (q kept word : ℕ) → ((i : ℕ) → i / 64 ≡ q → bit_at kept (i % 64) ≡ front_bit false k old i) →
    ((i : ℕ) → i / 64 ≡ q → bit_at word (i % 64) ≡ front_bit f k bits i) → bit_or kept word ≡ word →
    ((i : ℕ) → i < k → i / 64 < q → word_bit old i ≡ 1 → front_bit f k bits i ≡ 1) → (i : ℕ) → i < k → i / 64 < q + 1 → word_bit old i ≡ 1 → front_bit f k bits i ≡ 1
within_more f k old bits q kept word olds news same before i h l e =
    elim (cases_lt (i / 64) q) [
      | inl m ↦ before i h m e
      | inr m ↦
          let place : i / 64 ≡ q = omega arith in
          let was : front_bit false k old i ≡ 1 = ap (λ t. if t then word_bit old i else 0) (lt-ltb i k h) ∙ e in
          let joined : bit_at word (i % 64) ≡ max (bit_at kept (i % 64)) (bit_at word (i % 64)) = ap (λ w. bit_at w (i % 64)) (sym same) ∙ bit_at_or kept word (i % 64) in
          omega (arith, was, joined, olds i place, news i place, bit_at-lt word (i % 64))
    ]

-- ---- laying them over the old cells

pub laid_more : (f : Bool) (k : ℕ) (old bits out : List ℕ) (q x : ℕ) → q < length out → ((i : ℕ) → i / 64 ≡ q → bit_at x (i % 64) ≡ front_bit f k bits i) →
    ((i : ℕ) → q ≤ i / 64 → word_bit out i ≡ word_bit old i) → ((i : ℕ) → i / 64 < q → word_bit out i ≡ max (word_bit old i) (front_bit f k bits i)) →
    (i : ℕ) → i / 64 < q + 1 → word_bit (set out q (bit_or (get_or out q 0) x)) i ≡ max (word_bit old i) (front_bit f k bits i)
laid_more f k old bits out q x l news rest before i h =
    elim (cases_lt (i / 64) q) [
      | inl m ↦ set_word_other out q _ i (omega arith) ∙ before i m
      | inr m ↦
          let e : i / 64 ≡ q = omega arith in
          set_word_same out q _ i l e ∙ bit_at_or (get_or out q 0) x (i % 64)
          ∙ ap (λ b. max b (bit_at x (i % 64))) (in_word out q i e ∙ rest i m)
          ∙ ap (max (word_bit old i)) (news i e)
    ]

-- past the words of the bits the old cells stay
pub laid_all : (f : Bool) (k : ℕ) (old bits out : List ℕ) (q : ℕ) → k ≤ 64 * q → ((i : ℕ) → q ≤ i / 64 → word_bit out i ≡ word_bit old i) →
    ((i : ℕ) → i / 64 < q → word_bit out i ≡ max (word_bit old i) (front_bit f k bits i)) → (i : ℕ) → word_bit out i ≡ max (word_bit old i) (front_bit f k bits i)
laid_all f k old bits out q room rest laid i =
    elim (cases_lt (i / 64) q) [
      | inl l ↦ laid i l
      | inr m ↦ omega (arith, rest i m, front_past f k bits i (omega arith))
    ]

-- bits that are above the first cells of a row, laid over it
pub record IsLaid (f : Bool) (k n : ℕ) (old bits out : List ℕ) : Type 0 where
  pub fits : k ≤ n
  pub old_row : IsRow n old
  pub len : length out ≡ length old
  pub above : IsAbove (turned_by f (cells_of k bits)) (cells_of k old)
  pub laid : (i : ℕ) → word_bit out i ≡ max (word_bit old i) (front_bit f k bits i)

pub laid_over : (f : Bool) (k n : ℕ) (old bits copied out : List ℕ) → k ≤ n → IsRow n old → IsAbove (turned_by f (cells_of k bits)) (cells_of k old) → copied ≡ old → length out ≡ length copied →
    ((i : ℕ) → word_bit out i ≡ max (word_bit copied i) (front_bit f k bits i)) → IsLaid f k n old bits out
laid_over f k n old bits copied out fits r above same len h = record {
  fits = fits;
  old_row = r;
  len = len ∙ ap length same;
  above = above;
  laid = λ i. h i ∙ ap (λ words. max (word_bit words i) (front_bit f k bits i)) same;
}

pub laid_row : (f : Bool) (k n : ℕ) (old bits out : List ℕ) → IsLaid f k n old bits out → IsRow n out
laid_row f k n old bits out j = record {
  count = j.len ∙ j.old_row.count;
  padding = λ i h. omega (arith, j.laid i, j.old_row.padding i h, front_past f k bits i (omega (arith, j.fits)));
}

pub laid_front : (f : Bool) (k n : ℕ) (old bits out : List ℕ) → IsLaid f k n old bits out → (i : ℕ) → i < k → nat_eq (word_bit out i) 1 ≡ cell_at (turned_by f (cells_of k bits)) i
laid_front f k n old bits out j i l =
    ap (λ b. nat_eq b 1) (j.laid i ∙ digit_within _ _ (word_bit-lt old i) (front_bit-lt f k bits i) (bits_from_above f k old bits j.above i l))
    ∙ front_cell f k bits i l

pub laid_rest : (f : Bool) (k n : ℕ) (old bits out : List ℕ) → IsLaid f k n old bits out → (i : ℕ) → k ≤ i → word_bit out i ≡ word_bit old i
laid_rest f k n old bits out j i m = omega (arith, j.laid i, front_past f k bits i m)

-- the cells then are the bits and the old cells after them
pub laid_cells : (f : Bool) (k n : ℕ) (old bits out : List ℕ) → IsLaid f k n old bits out → cells_of n out ≡ turned_by f (cells_of k bits) ++ drop k (cells_of n old)
laid_cells f k n old bits out j =
    let front : List Bool = turned_by f (cells_of k bits) in
    let rest : List Bool = drop k (cells_of n old) in
    let len : length front ≡ k = length-turned f (cells_of k bits) ∙ length-cells_of k bits in
    sym (same_cells n out (front ++ rest) (omega (arith, j.fits, len, length-append front rest, length-drop k (cells_of n old), length-cells_of n old)) (λ i l.
    elim (cases_lt i k) [
      | inl m ↦ get_or_append_left front rest false i (omega arith) ∙ sym (laid_front f k n old bits out j i m)
      | inr m ↦
          let place : k + (i - k) ≡ i = omega arith in
          get_or-append_right front rest k i false len m ∙ get_or-drop k (cells_of n old) (i - k) false ∙ ap (cell_at (cells_of n old)) place
          ∙ get_or-cells_of n old i false l ∙ sym (ap (λ b. nat_eq b 1) (laid_rest f k n old bits out j i m))
    ]))
