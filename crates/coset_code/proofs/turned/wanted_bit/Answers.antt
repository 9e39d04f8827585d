-- The bit is above them.
use Rattle.std.proofs.Common.{◌≢◌, arith}
use Rattle.std.proofs.lemmas.Nat.Bits.{bit_at-pow_other}
use Rattle.coset_code.proofs.turned.wanted_bit.Goals as goal

pub returns-then-wanted-place-eq1 : goal.returns-then-wanted-place-eq1
returns-then-wanted-place-eq1 c = λ i h. let other : i ≢ 63 = omega arith in bit_at-pow_other 63 i other
