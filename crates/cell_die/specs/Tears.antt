-- The cells that a change call leaves where it is cut.
use Rattle.std.specs.Prelude.{◌≡◌, ℕ, ◌%◌, ◌==◌, Bool, true, false, List, length, if◌then◌else◌}
use Rattle.std.specs.Int.{bit_at}
use Rattle.cell_die.specs.declared.shape.Torn.{Torn}
use Rattle.cell_die.specs.declared.shape.Torn.TheVariants.{Nothing, All, Mask}
use Rattle.cell_die.specs.Cells.{charge_at}

-- the cut change reaches this cell
abbrev pub reaches : Torn → ℕ → Bool
reaches Nothing cell = false
reaches All cell = true
reaches (Mask mask) cell = bit_at mask (cell % 64) == 1

-- the page is old, with the cells of target where the mask has the bit of the cell's number, modulo 64
pub record Blended (mask : ℕ) (old target new : List ℕ) : Type 0 where
  pub same_length : length new ≡ length old
  pub cells : (cell : ℕ) → charge_at new cell ≡ (if bit_at mask (cell % 64) == 1 then charge_at target cell else charge_at old cell)

-- the change of a page from old to target, cut in this form, leaves new
abbrev pub IsTorn : Torn → List ℕ → List ℕ → List ℕ → Type 0
IsTorn Nothing old target new = new ≡ old
IsTorn All old target new = new ≡ target
IsTorn (Mask mask) old target new = Blended mask old target new
