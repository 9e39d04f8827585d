-- The bytes so far are those of their digits.
use Rattle.std.proofs.Common.{◌≡◌, ℕ, ◌+◌, ◌*◌, ◌/◌, ◌%◌, ◌^◌, ◌<◌, slice_index}
use Rattle.rssd_script.specs.Text.{hex_digit}
use Rattle.rssd_script.proofs.hex_text.write_bytes.Given as goal

abbrev pub invariant-loop-i : goal.invariant-loop-i
invariant-loop-i l = record {
  are : (k : ℕ) → slice_index l.bytes k < 2 ^ 8;
  high : (k : ℕ) → k < l.i → slice_index l.digits (2 * k) ≡ hex_digit (slice_index l.bytes k / 16);
  low : (k : ℕ) → k < l.i → slice_index l.digits (2 * k + 1) ≡ hex_digit (slice_index l.bytes k % 16);
}
