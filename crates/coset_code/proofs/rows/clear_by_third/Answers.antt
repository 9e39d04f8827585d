-- The row, or nothing, goes to each later row.
use Rattle.std.proofs.Common.{arith}
use Rattle.std.proofs.lemmas.Nat.Bits.{bit_at-lt}
use Rattle.coset_code.proofs.RowLemmas.{sound_set_one, by_one_third}
use Rattle.coset_code.proofs.rows.clear_by_third.Goals as goal

pub loop-other-preserved : goal.loop-other-preserved
loop-other-preserved c = λ coords old s.
    let now = c.loop-other.invariant coords old s in
    sound_set_one coords old c.args.count c.loop-other.other c.loop-other.rows _ now (omega arith) c.requires.few (omega arith)
    (by_one_third coords old _ _ _ _ _ _ _ _ (bit_at-lt _ _) (now c.loop-other.other (omega arith)) (s c.args.row c.requires.row) c.requires.none c.requires.none_second
    (c.spread.ensures _ (omega arith)))
