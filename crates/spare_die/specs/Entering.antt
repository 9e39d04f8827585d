-- What the steps of an erase change.
use Rattle.std.specs.Prelude.{◌≡◌, ◌≢◌, ◌⊎◌, ℕ, ◌/◌, ◌<◌, ◌≤◌, Bool, true, false, List, length, slice_index_or}
use Rattle.cell_die.specs.Cells.{IsAbove, blank_page}
use Rattle.cell_die.specs.DieState.{DieState, IsShaped, page_of, page_bytes}
use Rattle.cell_die.specs.Counts.{raised}
use Rattle.cell_die.specs.Calls.{ChangeFailed}
use Rattle.spare_die.specs.Table.{home, HasHomes, is_gated, logical_of, inner_of}
use Rattle.spare_die.specs.Spare.{Own}
use Rattle.spare_die.specs.Book.{IsUsedUp}

-- nothing but the table and the home of this logical block changes
pub record Renews (inner new : DieState) (logical block : ℕ) : Type 0 where
  pub shaped : IsShaped inner
  pub homes : HasHomes inner logical
  pub shape : new.shape ≡ inner.shape
  pub inside : block < logical
  pub others : (other : ℕ) → other ≢ block → home new other ≡ home inner other
  pub pages : (page : ℕ) → inner.shape.pages ≤ page → page / inner.shape.pages ≢ home inner block → page_of new page ≡ page_of inner page

-- the table stays, and of the other pages only those of this inner block change, to cells below the old ones
pub record ErasesHome (inner new : DieState) (at : ℕ) : Type 0 where
  pub shape : new.shape ≡ inner.shape
  pub others : (page : ℕ) → page / inner.shape.pages ≢ at → page_of new page ≡ page_of inner page
  pub below : (page : ℕ) → page / inner.shape.pages ≡ at → IsAbove (page_of inner page) (page_of new page)

-- the pages of this inner block have no charged cell
abbrev pub IsBlankBlock : DieState → ℕ → Type 0
IsBlankBlock inner block = (page : ℕ) → page / inner.shape.pages ≡ block → page_of inner page ≡ blank_page (page_bytes inner.shape)

-- nothing but the table changes, and no home but that of this logical block
pub record ReplacesHome (inner new : DieState) (block : ℕ) : Type 0 where
  pub shape : new.shape ≡ inner.shape
  pub others : (other : ℕ) → other ≢ block → home new other ≡ home inner other
  pub pages : (page : ℕ) → inner.shape.pages ≤ page → page_of new page ≡ page_of inner page

-- the page is an entry that names this inner block for this logical block
pub record IsEntry (page : List ℕ) (block named : ℕ) : Type 0 where
  pub gated : is_gated page ≡ true
  pub logical : logical_of page ≡ block
  pub inner : inner_of page ≡ named

-- the lowest number that is not taken
pub record IsLowest (taken : List Bool) (n : ℕ) : Type 0 where
  pub inside : n < length taken
  pub free : slice_index_or taken n true ≡ false
  pub below : (k : ℕ) → k < n → slice_index_or taken k true ≡ true

-- a logical block could not be moved: a call of the inner die failed, or reserve or table is used up and the die counts that itself
abbrev pub ReplaceFailed : DieState → DieState → ℕ → Own → Own → Type 0
ReplaceFailed inner new logical old_own new_own =
    (ChangeFailed 2 0 inner new × (new_own.change_faults ≡ old_own.change_faults))
    ⊎ ((new ≡ inner) × (new_own.change_faults ≡ raised old_own.change_faults) × IsUsedUp new logical)
