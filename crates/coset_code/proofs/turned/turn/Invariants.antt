use Rattle.std.proofs.Common.{◌≡◌, ℕ, ◌<◌, ◌+◌, get_or}
use Rattle.std.specs.Int.{bit_at}
use Rattle.coset_code.proofs.turned.turn.Given as goal

abbrev pub invariant-loop-place : goal.invariant-loop-place
invariant-loop-place l = record {
  first_bits : (p i : ℕ) → p < l.place → i < 64 → bit_at (get_or l.table p 0) i ≡ bit_at (get_or l.coords (128 + i) 0) p;
  second_bits : (p i : ℕ) → p < l.place → i < 64 → bit_at (get_or l.table (128 + p) 0) i ≡ bit_at (get_or l.coords (192 + i) 0) p;
  third_bits : (p i : ℕ) → p < l.place → i < 64 → bit_at (get_or l.table (256 + p) 0) i ≡ bit_at (get_or l.coords (256 + i) 0) p;
}
