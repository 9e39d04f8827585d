use Rattle.std.proofs.Common.{◌≡◌, ℕ, ◌<◌, true}
use Rattle.wom_code.specs.Cells.{cell_at}
use Rattle.wom_code.specs.Turned.{turned_by}
use Rattle.wom_code.proofs.turned.fits.Given as goal

abbrev pub invariant-loop-cell : goal.invariant-loop-cell
invariant-loop-cell l = (i : ℕ) → i < l.cell → cell_at l.old i ≡ true → cell_at (turned_by l.turned l.bits) i ≡ true
