-- The word of the block gains its bit, and no other.
use Rattle.std.proofs.Common.{eqb, w64, ap, arith}
use Rattle.std.proofs.lemmas.Nat.Bits.{bit_at_set_same, bit_at_set_other}
use Rattle.block_state.proofs.Bits.{put_word}
use Rattle.block_state.proofs.block_set.BlockSet.insert.Goals as goal

pub returns : goal.returns
returns c = put_word _ c.args.block _ _ (omega arith) (ap (λ n. eqb n 1) (bit_at_set_same w64 _ _ (omega arith))) (λ i below other. bit_at_set_other w64 _ _ (omega arith) i other)
