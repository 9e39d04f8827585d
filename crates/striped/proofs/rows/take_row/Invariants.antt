-- The cells taken so far stand in the row, and no later bit is set.
use Rattle.std.proofs.Common.{◌≡◌, ℕ, ◌+◌, ◌-◌, ◌<◌, ◌≤◌}
use Rattle.cell_bits.specs.Cells.{charge_at}
use Rattle.wom_code.specs.Packed.{word_bit}
use Rattle.striped.proofs.rows.take_row.Given as goal

abbrev pub invariant-loop-done : goal.invariant-loop-done
invariant-loop-done l = record {
  within : l.done ≤ l.count;
  taken : (i : ℕ) → i < l.done → word_bit l.words (l.start + i) ≡ charge_at l.bytes (l.at + i);
  below : (i : ℕ) → i < l.start → word_bit l.words i ≡ word_bit l.fn.words i;
  above : (i : ℕ) → l.start + l.done ≤ i → word_bit l.words i ≡ 0;
}

abbrev pub decreases-loop-done : goal.decreases-loop-done
decreases-loop-done l = l.count - l.done
