-- The change calls of a die, one after the other: those that were carried out whole, and a last one that was cut.
use Rattle.std.specs.Prelude.{◌≡◌, ◌⊎◌, ℕ, zero, suc, List}
use Rattle.cell_die.specs.declared.shape.Torn.{Torn}
use Rattle.cell_die.specs.declared.shape.Torn.TheVariants.{Nothing}
use Rattle.cell_die.specs.Cells.{IsAbove, blank_page}
use Rattle.cell_die.specs.Changes.{SameCells, OnlyPage, OnlyBlock, IsErased}
use Rattle.cell_die.specs.Counts.{raised}
use Rattle.cell_die.specs.DieState.{DieState, page_of, page_bytes, block_of, erases_of}
use Rattle.cell_die.specs.Tears.{IsTorn}

-- the page was programmed to these cells, and nothing else changed
pub record Programs (page : ℕ) (target : List ℕ) (old new : DieState) : Type 0 where
  pub above : IsAbove target (page_of old page)
  pub cells : page_of new page ≡ target
  pub only : OnlyPage page old new

-- the block was erased, and nothing else changed
pub record Erases (block : ℕ) (old new : DieState) : Type 0 where
  pub erased : IsErased block old new
  pub only : OnlyBlock block old new

-- a change call that was carried out whole; a charge programs a page to its cells and one more
abbrev pub IsWhole : DieState → DieState → Type 0
IsWhole old new = ((page : ℕ) × (target : List ℕ) × Programs page target old new) ⊎ ((block : ℕ) × Erases block old new)

-- a program of the page to these cells was cut in this form
pub record TearsProgram (form : Torn) (page : ℕ) (target : List ℕ) (old new : DieState) : Type 0 where
  pub above : IsAbove target (page_of old page)
  pub cells : IsTorn form (page_of old page) target (page_of new page)
  pub only : OnlyPage page old new

-- the erase count after an erase that was cut; one that changed no cell is not counted
abbrev pub torn_count : Torn → ℕ → ℕ
torn_count Nothing count = count
torn_count form count = raised count

-- an erase of the block was cut in this form
pub record TearsErase (form : Torn) (block : ℕ) (old new : DieState) : Type 0 where
  pub cells : (page : ℕ) → block_of old page ≡ block → IsTorn form (page_of old page) (blank_page (page_bytes old.shape)) (page_of new page)
  pub count : erases_of new block ≡ torn_count form (erases_of old block)
  pub only : OnlyBlock block old new

-- a change call was cut in this form
abbrev pub IsCut : Torn → DieState → DieState → Type 0
IsCut form old new = ((page : ℕ) × (target : List ℕ) × TearsProgram form page target old new) ⊎ ((block : ℕ) × TearsErase form block old new)

-- no cell and no erase count differs
pub record IsStill (old new : DieState) : Type 0 where
  pub shape : new.shape ≡ old.shape
  pub same : SameCells old new

-- so many change calls, each carried out whole, lead from one to the other
unfoldable pub IsChanged : ℕ → DieState → DieState → Type 0
IsChanged zero old new = IsStill old new
IsChanged (suc calls) old new = (mid : DieState) × (mid.shape ≡ old.shape) × IsWhole old mid × IsChanged calls mid new

-- so many change calls were carried out whole, and the next was cut in this form
pub record EndsCut (calls : ℕ) (form : Torn) (old new : DieState) : Type 0 where
  pub mid : DieState
  pub whole : IsChanged calls old mid
  pub cut : IsCut form mid new
