-- Each charged cell has its bit, and the bits past the cells are still blank.
use Rattle.std.proofs.Common.{length, sym, refl, arith}
use Rattle.wom_code.proofs.PackedLemmas.{same_cells}
use Rattle.wom_code.proofs.words.pack.Goals as goal

pub returns-clause-cells : goal.returns-clause-cells
returns-clause-cells c = sym (same_cells (length c.args.cells.now) c.loop-cell.words c.args.cells.now refl (λ i h. c.loop-cell.invariant.packed i (omega arith)))
