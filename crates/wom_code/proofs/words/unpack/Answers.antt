-- Each cell that was written is the bit of its number.
use Rattle.std.proofs.Common.{length, arith}
use Rattle.wom_code.proofs.PackedLemmas.{same_cells}
use Rattle.wom_code.proofs.words.unpack.Goals as goal

pub returns : goal.returns
returns c = same_cells (length c.args.cells.now) c.args.words.now c.loop-cell.cells (omega arith) (λ i h. c.loop-cell.invariant i (omega arith))
