-- Either row, both or nothing goes to each later row.
use Rattle.std.proofs.Common.{◌+◌, arith}
use Rattle.std.proofs.lemmas.Nat.Bits.{bit_at-lt}
use Rattle.coset_code.proofs.RowLemmas.{sound_set_two, by_parts_second}
use Rattle.coset_code.proofs.rows.add_two_by_second.Goals as goal

pub loop-other-preserved : goal.loop-other-preserved
loop-other-preserved c = λ coords old s.
    let now = c.loop-other.invariant coords old s in
    sound_set_two coords old c.args.count c.loop-other.other c.loop-other.rows _ _ now (omega arith) c.requires.few (omega arith)
    (by_parts_second coords old _ _ _ _ _ _ _ _ _ _ _ _ _ _ _ (bit_at-lt _ _) (bit_at-lt _ _) (now c.loop-other.other (omega arith)) (s c.args.row (omega arith))
    (s (c.args.row + 1) (omega arith)) c.requires.none c.requires.none_next
    (c.spread-all.ensures _ (omega arith)) (c.spread-all.ensures _ (omega arith))
    (c.spread-too.ensures _ (omega arith)) (c.spread-too.ensures _ (omega arith)))
