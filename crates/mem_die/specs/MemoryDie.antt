-- What a cut leaves of the cells of a die in memory: exactly the cells that its form names.
use Rattle.std.specs.Prelude.{◌≡◌, ℕ, List, if◌then◌else◌}
use Rattle.cell_die.specs.declared.shape.Torn.{Torn}
use Rattle.cell_die.specs.declared.shape.Torn.TheVariants.{Nothing, All, Mask}
use Rattle.cell_die.specs.Cells.{charge}
use Rattle.cell_die.specs.Counts.{raised}
use Rattle.cell_die.specs.DieState.{DieState, page_of, erases_of}
use Rattle.cell_die.specs.Changes.{SameCells, IsErased}
use Rattle.mem_die.specs.MemState.{TearsBlock}
use Rattle.mem_die.specs.Tears.{IsTorn, reaches}

-- a failed call of a die without power: no cell, no erase count and no armed number changes
pub record IsRefused (old new : DieState) : Type 0 where
  pub same_cells : SameCells old new
  pub same_failures : new.failures ≡ old.failures

-- a failed program: the page is torn in the armed form
abbrev pub CutsProgram : Torn → ℕ → List ℕ → DieState → DieState → Type 0
CutsProgram form page target old new = IsTorn form (page_of old page) target (page_of new page)

-- a failed charge: the cell is charged where the armed form reaches it
abbrev pub CutsCharge : Torn → ℕ → ℕ → DieState → DieState → Type 0
CutsCharge form page cell old new = page_of new page ≡ (if reaches form cell then charge (page_of old page) cell else page_of old page)

-- each page of the block is torn, and its erase count is one higher
pub record TearsErase (form : Torn) (block : ℕ) (old new : DieState) : Type 0 where
  pub pages : TearsBlock form block old new
  pub count : erases_of new block ≡ raised (erases_of old block)

-- a failed erase: nothing, the whole erase, or an erase of the cells that the mask names
abbrev pub CutsErase : Torn → ℕ → DieState → DieState → Type 0
CutsErase Nothing block old new = SameCells old new
CutsErase All block old new = IsErased block old new
CutsErase (Mask mask) block old new = TearsErase (Mask mask) block old new
