-- What the calls of a die change of its cells and erase counts.
use Rattle.std.specs.Prelude.{◌≡◌, ◌≢◌, ℕ, ◌≤◌, List}
use Rattle.cell_die.specs.Cells.{IsAbove, blank_page}
use Rattle.cell_die.specs.Counts.{raised, Stayed}
use Rattle.cell_die.specs.DieState.{DieState, page_of, page_bytes, block_of, erases_of}

-- no cell and no erase count changes
pub record SameCells (old new : DieState) : Type 0 where
  pub cells : new.cells ≡ old.cells
  pub erases : new.erases ≡ old.erases

-- nothing but the cells of this page changes
pub record OnlyPage (page : ℕ) (old new : DieState) : Type 0 where
  pub others : (other : ℕ) → other ≢ page → page_of new other ≡ page_of old other
  pub erases : new.erases ≡ old.erases

-- nothing but the cells and the erase count of this block changes
pub record OnlyBlock (block : ℕ) (old new : DieState) : Type 0 where
  pub pages : (page : ℕ) → block_of old page ≢ block → page_of new page ≡ page_of old page
  pub counts : (other : ℕ) → other ≢ block → erases_of new other ≡ erases_of old other

-- the page has cells above the old ones and below these
pub record IsBetween (old new target : List ℕ) : Type 0 where
  pub above : IsAbove new old
  pub below : IsAbove target new

-- no cell of the block is charged, and its erase count is one higher
pub record IsErased (block : ℕ) (old new : DieState) : Type 0 where
  pub blank : (page : ℕ) → block_of old page ≡ block → page_of new page ≡ blank_page (page_bytes old.shape)
  pub count : erases_of new block ≡ raised (erases_of old block)

-- the block's cells are any below the old ones, and its erase count is one higher
pub record ErasedInPart (block : ℕ) (old new : DieState) : Type 0 where
  pub below : (page : ℕ) → block_of old page ≡ block → IsAbove (page_of old page) (page_of new page)
  pub count : erases_of new block ≡ raised (erases_of old block)

-- No cell loses its charge unless its block was erased, and no erase count falls.
pub record NeverFalls (old new : DieState) : Type 0 where
  pub counts : (block : ℕ) → erases_of old block ≤ erases_of new block
  pub cells : (page : ℕ) → Stayed (erases_of old (block_of old page)) (erases_of new (block_of old page)) → IsAbove (page_of new page) (page_of old page)
