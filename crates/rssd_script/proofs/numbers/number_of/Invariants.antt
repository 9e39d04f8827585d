-- What was read so far are digits, and the number is theirs.
use Rattle.std.proofs.Common.{◌≡◌, ◌<◌, ◌≤◌, take, true, length}
use Rattle.std.specs.Str.{all_ascii_digits}
use Rattle.rssd_script.proofs.Texts.{read_on}
use Rattle.rssd_script.proofs.numbers.number_of.Given as goal

abbrev pub invariant-loop-byte : goal.invariant-loop-byte
invariant-loop-byte l = record {
  digits : all_ascii_digits (take l.byte-index l.text) ≡ true;
  number : l.number ≡ read_on 0 (take l.byte-index l.text);
  some : 0 < length l.text;
  short : length l.text ≤ 10;
}
