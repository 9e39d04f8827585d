use Rattle.std.proofs.Common.{◌≡◌, take}
use Rattle.wom_code.specs.Cells.{charge_of}
use Rattle.wom_code.proofs.turned.count_charged.Given as goal

abbrev pub invariant-loop-cell : goal.invariant-loop-cell
invariant-loop-cell l = l.charged ≡ charge_of (take l.cell-index l.cells)
