-- Packed rows and the cells that they hold.
use Rattle.std.proofs.Common.{◌≡◌, ◌≢◌, ℕ, ◌+◌, ◌*◌, ◌/◌, ◌%◌, ◌^◌, ◌<◌, ◌≤◌, Bool, false, List, length, get_or, set, take, replicate, bit_or, sym, ◌∙◌, ap, inl, inr, arith, nat_eq}
use Rattle.std.specs.Int.{bit_at, w64}
use Rattle.std.proofs.lemmas.Bool.{cases_eq, cases_lt}
use Rattle.std.proofs.lemmas.List.{get_or-set_same, get_or-set_other, get_or_past, get_or-replicate, length-replicate, ext_get_or}
use Rattle.std.proofs.lemmas.List.FromFn.{length-map-range_with_len, get_or-map-range_with_len, take-map-range_with_len}
use Rattle.std.proofs.lemmas.Nat.Bits.{bit_at_set_same, bit_at_set_other, bit_at-zero, bit_at-lt}
use Rattle.std.proofs.lemmas.Nat.{mod_below}
use Rattle.wom_code.specs.Cells.{cell_at}
use Rattle.wom_code.specs.Packed.{word_bit, cells_of, IsRow}

pub length-cells_of : (n : ℕ) (words : List ℕ) → length (cells_of n words) ≡ n
unfolding cells_of
length-cells_of n words = length-map-range_with_len (λ i. nat_eq (word_bit words i) 1) 0 n

-- a cell of a row is its bit
pub get_or-cells_of : (n : ℕ) (words : List ℕ) (i : ℕ) (d : Bool) → i < n → get_or (cells_of n words) i d ≡ nat_eq (word_bit words i) 1
unfolding cells_of
get_or-cells_of n words i d h = get_or-map-range_with_len (λ k. nat_eq (word_bit words k) 1) 0 n i i d h (omega arith)

-- the same at every place
pub cell_at-cells_of : (n : ℕ) (words : List ℕ) → IsRow n words → (i : ℕ) → cell_at (cells_of n words) i ≡ nat_eq (word_bit words i) 1
cell_at-cells_of n words r i =
    elim (cases_lt i n) [
      | inl h ↦ get_or-cells_of n words i false h
      | inr h ↦ get_or_past (cells_of n words) i false (omega (arith, length-cells_of n words)) ∙ sym (ap (λ b. nat_eq b 1) (r.padding i h))
    ]

-- cells whose bits these are
pub same_cells : (n : ℕ) (words : List ℕ) (cells : List Bool) → length cells ≡ n → ((i : ℕ) → i < n → get_or cells i false ≡ nat_eq (word_bit words i) 1) → cells ≡ cells_of n words
same_cells n words cells len h =
    ext_get_or false cells (cells_of n words) (len ∙ sym (length-cells_of n words))
    (λ i l. h i (omega arith) ∙ sym (get_or-cells_of n words i false (omega arith)))

-- a bit that is charged
pub charged_bit : (words : List ℕ) (cell : ℕ) → cell < 64 * length words →
    word_bit (set words (cell / 64) (bit_or (get_or words (cell / 64) 0) (1 * 2 ^ (cell % 64) % 2 ^ 64))) cell ≡ 1
charged_bit words cell h =
    ap (λ w. bit_at w (cell % 64)) (get_or-set_same words (cell / 64) _ 0 (omega arith))
    ∙ bit_at_set_same w64 (get_or words (cell / 64) 0) (cell % 64) (mod_below cell 64 (omega arith))

-- the bits beside it
pub other_bit : (words : List ℕ) (cell : ℕ) → cell < 64 * length words → (i : ℕ) → i ≢ cell →
    word_bit (set words (cell / 64) (bit_or (get_or words (cell / 64) 0) (1 * 2 ^ (cell % 64) % 2 ^ 64))) i ≡ word_bit words i
other_bit words cell h i n =
    elim (cases_eq (i / 64) (cell / 64)) [
      | inl same ↦
          let apart : i % 64 ≢ cell % 64 = λ e. n (omega arith) in
          ap (λ q. bit_at (get_or (set words (cell / 64) (bit_or (get_or words (cell / 64) 0) (1 * 2 ^ (cell % 64) % 2 ^ 64))) q 0) (i % 64)) same
          ∙ ap (λ w. bit_at w (i % 64)) (get_or-set_same words (cell / 64) _ 0 (omega arith))
          ∙ bit_at_set_other w64 (get_or words (cell / 64) 0) (cell % 64) (mod_below cell 64 (omega arith)) (i % 64) apart
          ∙ ap (λ q. bit_at (get_or words q 0) (i % 64)) (sym same)
      | inr other ↦ ap (λ w. bit_at w (i % 64)) (get_or-set_other words (cell / 64) (i / 64) _ 0 other)
    ]

-- blank words
pub word_bit-replicate : (n i : ℕ) → word_bit (replicate n 0) i ≡ 0
word_bit-replicate n i =
    elim (cases_lt (i / 64) n) [
      | inl h ↦ ap (λ w. bit_at w (i % 64)) (get_or-replicate n (i / 64) 0 0 h) ∙ bit_at-zero (i % 64)
      | inr h ↦ ap (λ w. bit_at w (i % 64)) (get_or_past (replicate n 0) (i / 64) 0 (omega (arith, length-replicate {A = ℕ} n 0))) ∙ bit_at-zero (i % 64)
    ]

-- a bit by the word that holds it
pub at_word : (words : List ℕ) (q j : ℕ) → j < 64 → word_bit words (64 * q + j) ≡ bit_at (get_or words q 0) j
at_word words q j h =
    let place : (64 * q + j) / 64 ≡ q = omega arith in
    let bit : (64 * q + j) % 64 ≡ j = omega arith in
    ap (λ k. bit_at (get_or words k 0) ((64 * q + j) % 64)) place ∙ ap (bit_at (get_or words q 0)) bit

pub word_bit-lt : (words : List ℕ) (i : ℕ) → word_bit words i < 2
word_bit-lt words i = bit_at-lt (get_or words (i / 64) 0) (i % 64)

pub in_word : (words : List ℕ) (q i : ℕ) → i / 64 ≡ q → bit_at (get_or words q 0) (i % 64) ≡ word_bit words i
in_word words q i e = ap (λ k. bit_at (get_or words k 0) (i % 64)) (sym e)

-- a word that is written
pub set_word_same : (words : List ℕ) (q x i : ℕ) → q < length words → i / 64 ≡ q → word_bit (set words q x) i ≡ bit_at x (i % 64)
set_word_same words q x i h e = ap (λ k. bit_at (get_or (set words q x) k 0) (i % 64)) e ∙ ap (λ w. bit_at w (i % 64)) (get_or-set_same words q x 0 h)

pub set_word_other : (words : List ℕ) (q x i : ℕ) → i / 64 ≢ q → word_bit (set words q x) i ≡ word_bit words i
set_word_other words q x i n = ap (λ w. bit_at w (i % 64)) (get_or-set_other words q (i / 64) x 0 n)

-- past the words there are no ones
pub past_words : (words : List ℕ) (i : ℕ) → length words ≤ i / 64 → word_bit words i ≡ 0
past_words words i h = ap (λ w. bit_at w (i % 64)) (get_or_past words (i / 64) 0 h) ∙ bit_at-zero (i % 64)

-- the first cells of a row
pub take-cells_of : (k n : ℕ) (words : List ℕ) → k ≤ n → take k (cells_of n words) ≡ cells_of k words
unfolding cells_of
take-cells_of k n words h = take-map-range_with_len (λ i. nat_eq (word_bit words i) 1) 0 n k h
