-- The bits taken so far are the cells, and no higher bit is set.
use Rattle.std.proofs.Common.{◌≡◌, ℕ, ◌+◌, ◌-◌, ◌<◌, ◌≤◌, ◌^◌}
use Rattle.std.specs.Int.{bit_at}
use Rattle.cell_bits.specs.Cells.{charge_at}
use Rattle.cell_bits.proofs.bits.take_bits.Given as goal

abbrev pub invariant-loop-done : goal.invariant-loop-done
invariant-loop-done l = record {
  within : l.done ≤ l.count;
  narrow : l.bits < 2 ^ l.done;
  taken : (i : ℕ) → i < l.done → bit_at l.bits i ≡ charge_at l.row (l.at + i);
}

abbrev pub decreases-loop-done : goal.decreases-loop-done
decreases-loop-done l = l.count - l.done
