-- The sum so far is that of the charged cells below the cell.
use Rattle.std.proofs.Common.{ℕ, get_or, bit_xor, true, false, sym, ◌∙◌, ap}
use Rattle.std.specs.Int.Bits.{xor_comm}
use Rattle.coset_code.proofs.SumLemmas.{sum_below-zero, sum_below_more}
use Rattle.coset_code.proofs.message.sum_of.Goals as goal
use Rattle.coset_code.proofs.message.sum_of.Goals.{then-cells-cell, else-cells-cell}

pub loop-cell-init : goal.loop-cell-init
loop-cell-init c = sym (sum_below-zero c.args.columns.now c.args.cells.now)

pub loop-cell-preserved : goal.loop-cell-preserved
loop-cell-preserved c =
    let k : ℕ = c.loop-cell.cell in
    elim c.if-cells-cell.branch [
      | then-cells-cell w ↦
          w.sum-is ∙ xor_comm c.loop-cell.sum _ ∙ ap (bit_xor (get_or c.args.columns.now k 0)) c.loop-cell.invariant
          ∙ sym (sum_below_more c.args.columns.now c.args.cells.now k true w.if-cells-cell.true)
      | else-cells-cell w ↦ w.sum-is ∙ c.loop-cell.invariant ∙ sym (sum_below_more c.args.columns.now c.args.cells.now k false w.if-cells-cell.false)
    ]
