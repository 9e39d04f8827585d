-- The cells put so far are the bits, and all others are those of the row as it came.
use Rattle.std.proofs.Common.{◌≡◌, ℕ, ◌+◌, ◌-◌, ◌<◌, ◌≤◌}
use Rattle.std.specs.Int.{bit_at}
use Rattle.cell_bits.specs.Cells.{charge_at}
use Rattle.cell_bits.proofs.bits.put_bits.Given as goal

abbrev pub invariant-loop-done : goal.invariant-loop-done
invariant-loop-done l = record {
  within : l.done ≤ l.count;
  put : (i : ℕ) → i < l.done → charge_at l.row (l.at + i) ≡ bit_at l.bits i;
  below : (c : ℕ) → c < l.at → charge_at l.row c ≡ charge_at l.fn.row c;
  above : (c : ℕ) → l.at + l.done ≤ c → charge_at l.row c ≡ charge_at l.fn.row c;
}

abbrev pub decreases-loop-done : goal.decreases-loop-done
decreases-loop-done l = l.count - l.done
