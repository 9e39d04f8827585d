-- The digits so far are those of the bytes.
use Rattle.std.proofs.Common.{◌≡◌, ℕ, ◌+◌, ◌*◌, ◌/◌, ◌%◌, ◌<◌, slice_index}
use Rattle.rssd_script.specs.Text.{hex_digit}
use Rattle.rssd_script.proofs.hex_text.write_digits.Given as goal

abbrev pub invariant-loop-i : goal.invariant-loop-i
invariant-loop-i l = record {
  high : (k : ℕ) → k < l.i → slice_index l.digits (2 * k) ≡ hex_digit (slice_index l.bytes k / 16);
  low : (k : ℕ) → k < l.i → slice_index l.digits (2 * k + 1) ≡ hex_digit (slice_index l.bytes k % 16);
}
