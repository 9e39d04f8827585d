-- Bit by bit the list is that of the number.
use Rattle.std.proofs.Common.{length, arith}
use Rattle.coset_code.proofs.MessageLemmas.{same_bits}
use Rattle.coset_code.proofs.message.write_bits.Goals as goal

pub returns : goal.returns
returns c = same_bits (length c.args.bits.now) c.args.number c.loop-i.bits (omega arith) (λ k h. c.loop-i.invariant k (omega arith))
