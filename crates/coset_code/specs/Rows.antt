-- Rows over the cells from 128 on, each the values of a linear function at the coordinates of uncharged cells.
use Rattle.std.specs.Prelude.{◌≡◌, ℕ, ◌+◌, ◌^◌, ◌<◌, List, length, slice_index, bit_xor, bit_or, IsTrue}
use Rattle.std.specs.Int.{bit_at}
use Rattle.gf2_solve.specs.Family.{Family}
use Rattle.gf2_solve.specs.Span.{subset_sum}
use Rattle.wom_code.specs.Cells.{IsAbove}
use Rattle.wom_code.specs.Packed.{word_bit, cells_of, words_for, IsRow}
use Rattle.coset_code.specs.declared.system.Turned.{Turned}
use Rattle.coset_code.specs.Sums.{syndrome}
use Rattle.coset_code.specs.Solution.{IsBasisSolution}

-- linear over GF(2)
pub record IsLinear (f : ℕ → ℕ) : Type 0 where
  pub zero : f 0 ≡ 0
  pub sum : (x y : ℕ) → f (bit_xor x y) ≡ bit_xor (f x) (f y)

-- the three words of a row hold what a linear function gives at the coordinates of uncharged cells; at those of cells below 128 it is 0
pub record IsRowOf (coords old : List ℕ) (f : ℕ → ℕ) (first second third : ℕ) : Type 0 where
  pub linear : IsLinear f
  pub low : (i : ℕ) → i < 128 → word_bit old i ≡ 0 → f (slice_index coords i) ≡ 0
  pub first_bits : (i : ℕ) → i < 64 → word_bit old (128 + i) ≡ 0 → f (slice_index coords (128 + i)) ≡ bit_at first i
  pub second_bits : (i : ℕ) → i < 64 → word_bit old (192 + i) ≡ 0 → f (slice_index coords (192 + i)) ≡ bit_at second i
  pub third_bits : (i : ℕ) → i < 63 → word_bit old (256 + i) ≡ 0 → f (slice_index coords (256 + i)) ≡ bit_at third i

abbrev pub IsSound : List ℕ → List ℕ → ℕ → ℕ → ℕ → Type 0
IsSound coords old first second third = (f : ℕ → ℕ) × IsRowOf coords old f first second third

-- the rows below the count; the three words of row k stand at k, 128 + k and 256 + k
abbrev pub AreSound : List ℕ → List ℕ → ℕ → List ℕ → Type 0
AreSound coords old count rows = (k : ℕ) → k < count → IsSound coords old (slice_index rows k) (slice_index rows (128 + k)) (slice_index rows (256 + k))

-- a linear function is 1 at the cell's coordinates, and 0 at those of the uncharged cells below it
pub record IsApart (coords old : List ℕ) (cell : ℕ) (f : ℕ → ℕ) : Type 0 where
  pub linear : IsLinear f
  pub one : f (slice_index coords cell) ≡ 1
  pub below : (k : ℕ) → k < cell → word_bit old k ≡ 0 → f (slice_index coords k) ≡ 0

abbrev pub IsSeparate : List ℕ → List ℕ → ℕ → Type 0
IsSeparate coords old cell = (f : ℕ → ℕ) × IsApart coords old cell f

-- each uncharged cell of the three words is separate from those below it
pub record AreSeparate (coords old : List ℕ) (first second third : ℕ) : Type 0 where
  pub first_cells : (i : ℕ) → i < 64 → bit_at first i ≡ 1 → word_bit old (128 + i) ≡ 0 → IsSeparate coords old (128 + i)
  pub second_cells : (i : ℕ) → i < 64 → bit_at second i ≡ 1 → word_bit old (192 + i) ≡ 0 → IsSeparate coords old (192 + i)
  pub third_cells : (i : ℕ) → i < 63 → bit_at third i ≡ 1 → word_bit old (256 + i) ≡ 0 → IsSeparate coords old (256 + i)

-- the cells below 128 are the full basis, and row p of the table has coordinate p of the cells from 128 on
pub record IsTurned (coords : List ℕ) (full : Family) (table : List ℕ) : Type 0 where
  pub rank : length full.columns ≡ 128
  pub tags : (p : ℕ) → p < 128 → slice_index full.tags p ≡ p
  pub some : 256 < length coords
  pub few : length coords < 320
  pub first_bits : (p i : ℕ) → p < 128 → i < 64 → bit_at (slice_index table p) i ≡ bit_at (slice_index coords (128 + i)) p
  pub second_bits : (p i : ℕ) → p < 128 → i < 64 → bit_at (slice_index table (128 + p)) i ≡ bit_at (slice_index coords (192 + i)) p
  pub third_bits : (p i : ℕ) → p < 128 → i < 64 → bit_at (slice_index table (256 + p)) i ≡ bit_at (slice_index coords (256 + i)) p

-- the place of the lowest bit of a word
pub record IsLowestBit (word place : ℕ) : Type 0 where
  pub one : bit_at word place ≡ 1
  pub below : (i : ℕ) → i < place → bit_at word i ≡ 0

-- the old cells of five words, and the cells of three words above them
pub record IsLaid (old new : List ℕ) (first second third : ℕ) : Type 0 where
  pub word_0 : slice_index new 0 ≡ slice_index old 0
  pub word_1 : slice_index new 1 ≡ slice_index old 1
  pub word_2 : slice_index new 2 ≡ bit_or (slice_index old 2) first
  pub word_3 : slice_index new 3 ≡ bit_or (slice_index old 3) second
  pub word_4 : slice_index new 4 ≡ bit_or (slice_index old 4) third

-- a row that the basis solution makes of the old one
pub record HasGoneOver (columns old new : List ℕ) (number : ℕ) : Type 0 where
  pub row : IsRow (length columns) new
  pub above : IsAbove (cells_of (length columns) new) (cells_of (length columns) old)
  pub sum : syndrome columns (cells_of (length columns) new) ≡ number
  pub solution : IsBasisSolution columns (cells_of (length columns) old) (cells_of (length columns) new)

-- the coordinates of each bit of a number
abbrev pub HasUnits : List ℕ → Family → Type 0
HasUnits units full = (b : ℕ) → b < 128 → subset_sum (slice_index units b) full.columns ≡ 2 ^ b

-- what is made once for calls by rows, and their room
pub record IsReady (coords : List ℕ) (full : Family) (t : Turned) : Type 0 where
  pub turned : IsTrue t.ready → IsTurned coords full t.table.items
  pub units : IsTrue t.ready → HasUnits t.units.items full
  pub units_len : length t.units.items ≡ 128
  pub table : length t.table.items ≡ 384
  pub rows : length t.rows.items ≡ 384
  pub trial : length t.trial.items ≡ words_for (length coords)
