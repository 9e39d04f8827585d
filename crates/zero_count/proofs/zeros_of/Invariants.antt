-- The zeros of the bytes so far, at most eight a byte.
use Rattle.std.proofs.Common.{◌≡◌, ◌≤◌, ◌*◌, take}
use Rattle.zero_count.specs.HeaderWord.{zero_bits}
use Rattle.zero_count.proofs.zeros_of.Given as goal

abbrev pub invariant-loop-byte : goal.invariant-loop-byte
invariant-loop-byte l = record { value : l.zeros ≡ zero_bits (take l.byte-index l.bytes); small : l.zeros ≤ 8 * l.byte-index }
