-- The table by coordinates, and the cells that a call charges.
use Rattle.std.specs.Prelude.{◌≡◌, ℕ, ◌+◌, ◌^◌, ◌<◌, Bool, true, false, List, [], length, slice_index, bit_xor, bit_and}
use Rattle.std.specs.Int.{bit_at}
use Rattle.gf2_solve.specs.Family.{Family}
use Rattle.gf2_solve.specs.Span.{subset_sum}
use Rattle.wom_code.specs.Cells.{cell_at, IsAbove}
use Rattle.coset_code.specs.Sums.{syndrome}
use Rattle.coset_code.specs.Solution.{HasOffered}

-- every column of the table was offered to the full basis, and each has its coordinates there
pub record HasCoordinates (columns coords : List ℕ) (full : Family) : Type 0 where
  pub offered : HasOffered columns [] (length columns) full
  pub coords_len : length coords ≡ length columns
  pub sums : (cell : ℕ) → subset_sum (slice_index coords cell) full.columns ≡ slice_index columns cell
  pub within : (cell : ℕ) → slice_index coords cell < 2 ^ length full.columns

-- the coordinates that are in the mask
pub record IsMasked (coords : List ℕ) (mask : ℕ) (masked : List ℕ) : Type 0 where
  pub masked_len : length masked ≡ length coords
  pub masks : (cell : ℕ) → slice_index masked cell ≡ bit_and (slice_index coords cell) mask

-- an uncharged cell with this column
pub record IsFreeCell (columns : List ℕ) (old : List Bool) (cell column : ℕ) : Type 0 where
  pub in_range : cell < length columns
  pub free : cell_at old cell ≡ false
  pub column_is : slice_index columns cell ≡ column

-- the vectors of the set are the columns of uncharged cells, each of another
pub record IsFreeSet (columns : List ℕ) (old : List Bool) (basis : Family) (set : ℕ) : Type 0 where
  pub cells : (p : ℕ) → bit_at set p ≡ 1 → IsFreeCell columns old (slice_index basis.tags p) (slice_index basis.columns p)
  pub ascending : (p q : ℕ) → p < q → q < length basis.columns → slice_index basis.tags p < slice_index basis.tags q

-- the cell is the tag of a vector of the set
abbrev pub IsTagged : Family → ℕ → ℕ → Type 0
IsTagged basis set cell = (p : ℕ) × (bit_at set p ≡ 1) × (slice_index basis.tags p ≡ cell)

-- the cells of a set were charged and no others, but for those of the rest
pub record IsChargedSet (columns : List ℕ) (old new : List Bool) (basis : Family) (set rest : ℕ) : Type 0 where
  pub sum : bit_xor (syndrome columns new) (subset_sum rest basis.columns) ≡ bit_xor (syndrome columns old) (subset_sum set basis.columns)
  pub above : IsAbove new old
  pub fresh : (cell : ℕ) → cell_at old cell ≡ false → cell_at new cell ≡ true → IsTagged basis set cell
  pub part : (p : ℕ) → bit_at rest p ≡ 1 → bit_at set p ≡ 1
  pub left : (p : ℕ) → bit_at rest p ≡ 1 → cell_at new (slice_index basis.tags p) ≡ false

-- one vector more, where one was taken
abbrev pub IsCounted : Bool → Family → Family → Type 0
IsCounted true old new = length new.columns ≡ length old.columns + 1
IsCounted false old new = length new.columns ≡ length old.columns
