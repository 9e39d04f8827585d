-- Word by word the bits of the number are written.
use Rattle.std.proofs.Common.{arith}
use Rattle.coset_code.proofs.MessageLemmas.{bits_of_written}
use Rattle.coset_code.proofs.message.write_number.Goals as goal

pub returns : goal.returns
returns c = bits_of_written c.args.number c.loop-place.words (rw c.loop-place.auto.words c.requires.fits) (λ k h. c.loop-place.invariant k (omega arith))
