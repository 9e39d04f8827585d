-- The word of the block loses its bit, and no other.
use Rattle.std.proofs.Common.{eqb, w64, ap, arith}
use Rattle.std.proofs.lemmas.Nat.Bits.{bit_at_clear_same, bit_at_clear_other}
use Rattle.block_state.proofs.Bits.{put_word}
use Rattle.block_state.proofs.block_set.BlockSet.remove.Goals as goal

pub returns : goal.returns
returns c = put_word _ c.args.block _ _ (omega arith) (ap (λ n. eqb n 1) (bit_at_clear_same w64 _ _ (omega arith))) (λ i below other. bit_at_clear_other w64 _ _ (omega arith) i below other)
