-- One more byte, which is that of its two digits.
use Rattle.std.proofs.Common.{◌^◌, ◌<◌, arith}
use Rattle.std.proofs.lemmas.List.Elements.{All-from_get_or}
use Rattle.rssd_script.proofs.HexTexts.{digits_are}
use Rattle.rssd_script.proofs.hex_text.write_bytes.Goals as goal

pub returns-clause-bytes : goal.returns-clause-bytes
returns-clause-bytes c = All-from_get_or (λ byte. byte < 2 ^ 8) c.loop-i.bytes 0 (λ i _. c.loop-i.invariant.are i)

pub returns-clause-digits : goal.returns-clause-digits
returns-clause-digits c =
    digits_are c.args.digits.now c.loop-i.bytes (omega (arith, c.requires.pairs, c.loop-i.auto.bytes)) (λ k h. c.loop-i.invariant.high k (omega arith)) (λ k h. c.loop-i.invariant.low k (omega arith))
