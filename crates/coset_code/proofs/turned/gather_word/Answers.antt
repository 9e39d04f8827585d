-- The row of each charged cell, from the lowest bit up.
use Rattle.std.proofs.Common.{ℕ, List, arith}
use Rattle.coset_code.proofs.BitSumLemmas.{lowest_bit}
use Rattle.coset_code.proofs.TurnLemmas.{sound_more, turned_row, word_bits, less_bits}
use Rattle.coset_code.proofs.turned.gather_word.Goals as goal

pub loop-left-init : goal.loop-left-init
loop-left-init c = record {
  few = c.requires.before;
  bits = word_bits c.args.old.now c.args.index (c.type_inv.old c.args.index).fits;
  rows = λ columns coords full s t h. h;
}

pub loop-left-smaller : goal.loop-left-smaller
loop-left-smaller c = (lowest_bit c.loop-left.left (omega arith) c.loop-left.auto.left-fits.fits).smaller

pub loop-left-preserved : goal.loop-left-preserved
loop-left-preserved c =
    let l = lowest_bit c.loop-left.left (omega arith) c.loop-left.auto.left-fits.fits in
    let old : List ℕ = c.args.old.now in
    record {
      few = omega arith;
      bits = λ i one. c.loop-left.invariant.bits i (less_bits c.loop-left.left _ _ l i one);
      rows = λ columns coords full s t h.
          sound_more coords old c.loop-left.count 1 c.loop-left.rows _ _ _ (c.loop-left.invariant.rows columns coords full s t h)
          (omega arith) (omega arith) (omega arith)
          (λ one. turned_row columns coords full c.args.table.now old _ c.wanted_bit.result s t (λ k. (c.type_inv.old k).fits) (omega (arith, l.in_word))
          (c.loop-left.invariant.bits _ l.in_left) c.wanted_bit.ensures);
    }
