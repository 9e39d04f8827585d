-- The row, or nothing, goes to the other.
use Rattle.std.proofs.Common.{arith}
use Rattle.std.proofs.lemmas.Nat.Bits.{bit_at-lt}
use Rattle.coset_code.proofs.RowLemmas.{sound_set_three, by_one}
use Rattle.coset_code.proofs.rows.add_row.Goals as goal

pub returns : goal.returns
returns c = λ coords old count few l r s.
    sound_set_three coords old count c.args.other c.args.rows.now _ _ _ s r few c.requires.rows
    (by_one coords old _ _ _ _ _ _ _ _ _ _ (bit_at-lt _ _) (s c.args.other r) (s c.args.row l) (c.spread-all.ensures _ (omega arith)) (c.spread-all.ensures _ (omega arith))
    (c.spread-all.ensures _ (omega arith)))
