-- A die with a mirror, by the die in memory and the number of puts that failed.
use Rattle.std.specs.Prelude.{ℕ, None}
use Rattle.cell_die.specs.Counts.{count_sum}
use Rattle.cell_die.specs.DieState.{DieState, IsShaped}
use Rattle.mem_die.specs.MemState.{mem_state, mem_shaped}
use Rattle.mem_die.specs.declared.mem.MemDie.{MemDie}

-- a put that failed is a failed change; since one may fail at any time the die tells nothing of its failures to come
abbrev pub file_view : DieState → ℕ → DieState
file_view die faults = record die { change_faults = count_sum die.change_faults faults; failures = None }

-- it has the cells that its shape says
pub view_shaped : (die : MemDie) (faults : ℕ) → IsShaped (file_view (mem_state die) faults)
view_shaped die faults = let inner : IsShaped (mem_state die) = mem_shaped die in
    record { some_pages = inner.some_pages; pages = inner.pages; blocks = inner.blocks; lengths = inner.lengths; bytes = inner.bytes }
