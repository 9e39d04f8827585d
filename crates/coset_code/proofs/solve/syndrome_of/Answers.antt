-- For every function of the bits left, the sum so far and what it gives make up the whole.
use Rattle.std.proofs.Common.{arith}
use Rattle.coset_code.proofs.BitSumLemmas.{lowest_bit, bit_added, word_ends, sum_ends}
use Rattle.coset_code.proofs.solve.syndrome_of.Goals as goal

pub loop-left-smaller : goal.loop-left-smaller
loop-left-smaller c = (lowest_bit c.loop-left.left (omega arith) c.loop-left.auto.left-fits.fits).smaller

pub loop-left-preserved : goal.loop-left-preserved
loop-left-preserved c =
    bit_added c.args.columns.now c.args.cells.now c.loop-index.index c.loop-left.left _ _ c.loop-left.sum c.column_at-sum.result c.loop-left.invariant
    (lowest_bit c.loop-left.left (omega arith) c.loop-left.auto.left-fits.fits) c.column_at-sum.ensures

pub loop-index-preserved : goal.loop-index-preserved
loop-index-preserved c = word_ends c.args.columns.now c.args.cells.now c.loop-index.index c.loop-left.sum c.loop-left.left (omega arith) c.loop-left.invariant

pub returns : goal.returns
returns c = sum_ends c.args.columns.now c.args.cells.now c.loop-index.index c.loop-index.sum (omega arith) c.loop-index.invariant
