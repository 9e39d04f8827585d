-- All digits are those of the bytes.
use Rattle.std.proofs.Common.{arith}
use Rattle.rssd_script.proofs.HexTexts.{digits_are}
use Rattle.rssd_script.proofs.hex_text.write_digits.Goals as goal

pub returns : goal.returns
returns c = digits_are c.loop-i.digits c.args.bytes.now (omega arith) (λ k h. c.loop-i.invariant.high k (omega arith)) (λ k h. c.loop-i.invariant.low k (omega arith))
