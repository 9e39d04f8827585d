-- The free cells of a row, and the one set of them that is charged for a sum.
use Rattle.std.specs.Prelude.{◌≡◌, ℕ, ◌<◌, Bool, true, false, not, ◌||◌, List, length, slice_index}
use Rattle.std.specs.List.{list_all, range_with_len}
use Rattle.gf2_solve.specs.Family.{Family}
use Rattle.gf2_solve.specs.Span.{IsSpanned}
use Rattle.wom_code.specs.Cells.{cell_at, IsAbove}
use Rattle.coset_code.specs.Sums.{syndrome, IsFreeSum, is_free_sum}

-- no newly charged cell has a column that is a sum of columns of free cells with lower numbers; free cells are the uncharged ones
abbrev pub IsBasisSolution : List ℕ → List Bool → List Bool → Type 0
IsBasisSolution columns old new =
    (cell : ℕ) → cell_at old cell ≡ false → cell_at new cell ≡ true → ¬ (IsFreeSum columns old cell (slice_index columns cell))

-- the cell was charged before, or is not charged now, or its column is no sum of columns of free cells with lower numbers
abbrev pub is_basis_cell : List ℕ → List Bool → List Bool → ℕ → Bool
is_basis_cell columns old new cell = cell_at old cell || not (cell_at new cell) || not (is_free_sum columns old cell (slice_index columns cell))

-- whether no newly charged cell has a column that is such a sum
unfoldable pub is_basis_solution : List ℕ → List Bool → List Bool → Bool
is_basis_solution columns old new = list_all (is_basis_cell columns old new) (range_with_len 0 (length columns))

-- of rows with one sum, at most one is the old cells and a basis solution
abbrev pub AtMostOneBasisSolution : List ℕ → List Bool → Type 0
AtMostOneBasisSolution columns old =
    (a b : List Bool) → length a ≡ length columns → length b ≡ length columns → IsAbove a old → IsAbove b old →
    IsBasisSolution columns old a → IsBasisSolution columns old b → syndrome columns a ≡ syndrome columns b → a ≡ b

-- an uncharged cell with this column, which is no sum of those of uncharged cells below it
pub record IsChosen (columns : List ℕ) (old : List Bool) (cell column : ℕ) : Type 0 where
  pub in_range : cell < length columns
  pub free : cell_at old cell ≡ false
  pub column_is : slice_index columns cell ≡ column
  pub unspanned : ¬ (IsFreeSum columns old cell column)

-- the tags of the basis are uncharged cells in ascending order, none of which is spanned by cells below it
pub record IsFreeBasis (columns : List ℕ) (old : List Bool) (basis : Family) : Type 0 where
  pub same_len : length basis.tags ≡ length basis.columns
  pub chosen : (p : ℕ) → p < length basis.columns → IsChosen columns old (slice_index basis.tags p) (slice_index basis.columns p)
  pub ascending : (p q : ℕ) → p < q → q < length basis.columns → slice_index basis.tags p < slice_index basis.tags q

-- the uncharged cells below n were offered to the basis
pub record HasOffered (columns : List ℕ) (old : List Bool) (n : ℕ) (basis : Family) : Type 0 where
  pub kept : IsFreeBasis columns old basis
  pub before : (p : ℕ) → p < length basis.columns → slice_index basis.tags p < n
  pub spans : (v : ℕ) → IsFreeSum columns old n v → IsSpanned basis.columns v
