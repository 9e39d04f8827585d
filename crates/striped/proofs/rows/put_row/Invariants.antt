-- The cells put so far are those of the row, and all others are as they came.
use Rattle.std.proofs.Common.{◌≡◌, ℕ, ◌+◌, ◌-◌, ◌<◌, ◌≤◌}
use Rattle.cell_bits.specs.Cells.{charge_at}
use Rattle.wom_code.specs.Packed.{word_bit}
use Rattle.striped.proofs.rows.put_row.Given as goal

abbrev pub invariant-loop-done : goal.invariant-loop-done
invariant-loop-done l = record {
  within : l.done ≤ l.count;
  put : (i : ℕ) → i < l.done → charge_at l.bytes (l.at + i) ≡ word_bit l.words (l.start + i);
  below : (c : ℕ) → c < l.at → charge_at l.bytes c ≡ charge_at l.fn.bytes c;
  above : (c : ℕ) → l.at + l.done ≤ c → charge_at l.bytes c ≡ charge_at l.fn.bytes c;
}

abbrev pub decreases-loop-done : goal.decreases-loop-done
decreases-loop-done l = l.count - l.done
