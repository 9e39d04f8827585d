-- Sixteen digits are eight bytes, and these are the mask, the highest first.
use Rattle.std.proofs.Common.{◌≡◌, arith, length}
use Rattle.std.specs.Int.{w64, to_be_bytes}
use Rattle.rssd_script.proofs.Texts.{AreBytes-word, mask_text}
use Rattle.rssd_script.proofs.hex_text.mask_of.Goals as goal

pub returns-then-not-read_hex-clause-none : goal.returns-then-not-read_hex-clause-none
returns-then-not-read_hex-clause-none c m small e = c.if-not-read_hex.ensures (to_be_bytes w64 m) (AreBytes-word m) e

pub returns-clause-found : goal.returns-clause-found
returns-clause-found c =
    let eight : length c.read_hex.new.bytes ≡ 8 = omega (arith, c.read_hex.auto.bytes) in
    (omega arith, mask_text c.args.text.now c.read_hex.new.bytes c.from_be_bytes.result eight c.if-not-read_hex.ensures.1 c.from_be_bytes.ensures c.if-not-read_hex.ensures.0)
