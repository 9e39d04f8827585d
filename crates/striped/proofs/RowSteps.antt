-- Steps of the loops that take cells into words and put them back.
use Rattle.std.proofs.Common.{◌≡◌, ℕ, ◌+◌, ◌-◌, ◌*◌, ◌/◌, ◌%◌, ◌^◌, ◌<◌, ◌≤◌, ◌⊎◌, max, List, length, slice_index, slice_set, bit_and, bit_or, sym, ◌∙◌, ap, ap₂, subst, inl, inr, arith}
use Rattle.std.specs.Int.{bit_at}
use Rattle.std.proofs.lemmas.Bool.{cases_eq, cases_lt}
use Rattle.std.proofs.lemmas.Nat.{shl_whole, div-mul-add, mod-mul-add}
use Rattle.std.proofs.lemmas.Nat.Bits.{bit_at_or, bit_at_above, bit_at-zero}
use Rattle.std.proofs.lemmas.List.{get_or_past}
use Rattle.cell_bits.specs.Cells.{charge_at}
use Rattle.cell_bits.proofs.PieceLemmas.{bit_at_shl, bit_at_shl_below, piece_bit}
use Rattle.wom_code.specs.Packed.{word_bit}
use Rattle.wom_code.proofs.PackedLemmas.{set_word_same, set_word_other}

-- bits that are put into the word of a cell, above the charged ones
abbrev pub joined : List ℕ → ℕ → ℕ → List ℕ
joined words cell bits = slice_set words (cell / 64) (bit_or (slice_index words (cell / 64)) (bits * 2 ^ (cell % 64) % 18446744073709551616))

pub record IsNext (words : List ℕ) (cell more bits : ℕ) : Type 0 where
  pub room : cell / 64 < length words
  pub fits : cell % 64 + more ≤ 64
  pub narrow : bits < 2 ^ more
  pub blank : (i : ℕ) → cell ≤ i → word_bit words i ≡ 0

joined_bit : (words : List ℕ) (cell more bits : ℕ) → IsNext words cell more bits → (i : ℕ) → i / 64 ≡ cell / 64 →
    word_bit (joined words cell bits) i ≡ max (word_bit words i) (bit_at (bits * 2 ^ (cell % 64)) (i % 64))
joined_bit words cell more bits n i e =
    set_word_same words (cell / 64) _ i n.room e
    ∙ bit_at_or (slice_index words (cell / 64)) _ (i % 64)
    ∙ ap₂ (λ (x y : ℕ). max x y) (ap (λ q. bit_at (slice_index words q) (i % 64)) (sym e))
    (ap (λ x. bit_at x (i % 64)) (shl_whole bits more (cell % 64) 64 n.narrow (omega (arith, n.fits))))

pub joined_below : (words : List ℕ) (cell more bits : ℕ) → IsNext words cell more bits → (i : ℕ) → i < cell → word_bit (joined words cell bits) i ≡ word_bit words i
joined_below words cell more bits n i h =
    elim (cases_eq (i / 64) (cell / 64)) [
      | inr apart ↦ set_word_other words (cell / 64) _ i apart
      | inl e ↦
          let none : bit_at (bits * 2 ^ (cell % 64)) (i % 64) ≡ 0 = bit_at_shl_below bits (cell % 64) (i % 64) (omega arith) in
          joined_bit words cell more bits n i e ∙ omega arith
    ]

pub joined_here : (words : List ℕ) (cell more bits : ℕ) → IsNext words cell more bits → (i : ℕ) → i < more → word_bit (joined words cell bits) (cell + i) ≡ bit_at bits i
joined_here words cell more bits n i h =
    let fits = n.fits in
    let e : (cell + i) / 64 ≡ cell / 64 = omega arith in
    let place : (cell + i) % 64 ≡ cell % 64 + i = omega arith in
    let put : bit_at (bits * 2 ^ (cell % 64)) ((cell + i) % 64) ≡ bit_at bits i = ap (bit_at (bits * 2 ^ (cell % 64))) place ∙ bit_at_shl bits (cell % 64) i in
    joined_bit words cell more bits n (cell + i) e ∙ omega (arith, n.blank (cell + i) (omega arith))

pub joined_above : (words : List ℕ) (cell more bits : ℕ) → IsNext words cell more bits → (i : ℕ) → cell + more ≤ i → word_bit (joined words cell bits) i ≡ 0
joined_above words cell more bits n i h =
    elim (cases_eq (i / 64) (cell / 64)) [
      | inr apart ↦ set_word_other words (cell / 64) _ i apart ∙ n.blank i (omega arith)
      | inl e ↦
          let j : ℕ = i - cell in
          let place : i % 64 ≡ cell % 64 + (i - cell) = omega arith in
          let none : bit_at (bits * 2 ^ (cell % 64)) (i % 64) ≡ 0 =
          ap (bit_at (bits * 2 ^ (cell % 64))) place ∙ bit_at_shl bits (cell % 64) (i - cell) ∙ bit_at_above bits more (i - cell) n.narrow (omega arith) in
          joined_bit words cell more bits n i e ∙ omega (arith, n.blank i (omega arith))
    ]

-- a bit of a piece of a word
pub word_piece : (words : List ℕ) (cell more mask : ℕ) → mask ≡ 2 ^ more - 1 → cell % 64 + more ≤ 64 → (i : ℕ) → i < more →
    bit_at (bit_and (slice_index words (cell / 64) / 2 ^ (cell % 64)) mask) i ≡ word_bit words (cell + i)
word_piece words cell more mask e fits i h =
    let q : cell / 64 ≡ (cell + i) / 64 = omega arith in
    let r : cell % 64 + i ≡ (cell + i) % 64 = omega arith in
    piece_bit (slice_index words (cell / 64)) (cell % 64) more mask e i h
    ∙ ap₂ (λ (x y : ℕ). bit_at (slice_index words x) y) q r

-- ---- pages

-- a cell of the chunk that stands on this page
pub on_page : (cells page c : ℕ) → page * cells ≤ c → c < page * cells + cells → (c / cells ≡ page) × (c % cells ≡ c - page * cells)
on_page cells page c h l =
    let within : c - page * cells < cells = omega arith in
    let whole : page * cells + (c - page * cells) ≡ c = omega arith in (
      sym (ap (λ x. x / cells) whole) ∙ div-mul-add page cells (c - page * cells) within,
      sym (ap (λ x. x % cells) whole) ∙ mod-mul-add page cells (c - page * cells) within,
    )

-- pages in order
pub rows : (size a b : ℕ) → a < b → size * a + size ≤ size * b
rows size a b l =
    let e : a + 1 + (b - a - 1) ≡ b = omega arith in
    subst (λ x. size * a + size ≤ size * x) e (omega (arith, rows_split size a (b - a - 1)))
  where
    rows_split : (s u v : ℕ) → s * (u + 1 + v) ≡ s * u + s + s * v
    rows_split s u v = grind arith

-- the same page: two places with one rest are one
pub page_order : (p q size c first cells : ℕ) → c < size → first + cells ≤ size → (c < first) ⊎ (first + cells ≤ c) →
    (size * p + c < size * q + first) ⊎ (size * q + first + cells ≤ size * p + c)
page_order p q size c first cells h w s =
    elim (cases_lt p q) [
      | inl l ↦ inl (omega (arith, rows size p q l))
      | inr m ↦ elim (cases_eq p q) [
        | inl e ↦ same e s
        | inr n ↦ inr (omega (arith, rows size q p (omega arith)))
      ]
    ]
  where
    same : p ≡ q → (c < first) ⊎ (first + cells ≤ c) → (size * p + c < size * q + first) ⊎ (size * q + first + cells ≤ size * p + c)
    same e (inl l) = let f : size * p ≡ size * q = ap (λ x. size * x) e in inl (omega arith)
    same e (inr m) = let f : size * p ≡ size * q = ap (λ x. size * x) e in inr (omega arith)

-- a cell past the end
pub charge_at-past : (row : List ℕ) (c : ℕ) → 8 * length row ≤ c → charge_at row c ≡ 0
charge_at-past row c h = ap (λ x. bit_at x (c % 8)) (get_or_past row (c / 8) 0 (omega arith)) ∙ bit_at-zero (c % 8)
