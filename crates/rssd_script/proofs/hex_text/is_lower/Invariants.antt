-- Whether the bytes so far are digits.
use Rattle.std.proofs.Common.{◌≡◌, take}
use Rattle.std.specs.List.{list_all}
use Rattle.rssd_script.specs.Text.{is_lower_digit}
use Rattle.rssd_script.proofs.hex_text.is_lower.Given as goal

abbrev pub invariant-loop-byte : goal.invariant-loop-byte
invariant-loop-byte l = list_all is_lower_digit (take l.byte-index l.text) ≡ l.all
