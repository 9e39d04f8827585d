-- A die in memory whose erases go bad, as contracts see it.
use Rattle.std.specs.Prelude.{◌≡◌, ℕ, ◌-◌, ◌==◌, ◌||◌, [], ◌∷◌, Bool, false, None, slice_index_or, if◌then◌else◌}
use Rattle.cell_die.specs.DieState.{DieState, IsShaped}
use Rattle.mem_die.specs.declared.worn.WornMem.{WornMem}
use Rattle.mem_die.specs.MemState.{mem_state, mem_shaped}

-- the die within; no call of it fails, it tells nothing of its power, and its number of erases up to a bad one is fixed
abbrev pub worn_state : WornMem → DieState
worn_state worn = record (mem_state worn.die) { read_faults = 0; change_faults = 0; fixed = worn.every ∷ []; failures = None }

-- how many erases went bad
abbrev pub bad_erases_of : WornMem → ℕ
bad_erases_of worn = worn.bad_erases

-- in how many erases the next block goes bad; 0 where none does
abbrev pub next_bad : WornMem → ℕ
next_bad worn = worn.next

-- whether the block is bad
abbrev pub is_bad : WornMem → ℕ → Bool
is_bad worn block = slice_index_or worn.bad.items block false

-- whether an erase of the block answers Bad: the block is bad, or goes bad with this erase
abbrev pub answers_bad : WornMem → ℕ → Bool
answers_bad worn block = (next_bad worn == 1) || is_bad worn block

-- an erase of the block is counted: every so many erases one makes its block bad
pub record CountsErase (block : ℕ) (old new : WornMem) : Type 0 where
  pub every : new.every ≡ old.every
  pub next : next_bad new ≡ (if next_bad old == 1 then old.every else next_bad old - 1)
  pub here : is_bad new block ≡ answers_bad old block
  pub others : (other : ℕ) → (other ≡ block → ⊥) → is_bad new other ≡ is_bad old other

-- no block goes bad, and none is nearer to it
pub record SameWear (old new : WornMem) : Type 0 where
  pub every : new.every ≡ old.every
  pub next : next_bad new ≡ next_bad old
  pub blocks : (block : ℕ) → is_bad new block ≡ is_bad old block

-- such a die has the cells that its shape says
pub worn_shaped : (worn : WornMem) → IsShaped (worn_state worn)
worn_shaped worn = let inner : IsShaped (mem_state worn.die) = mem_shaped worn.die in
    record { some_pages = inner.some_pages; pages = inner.pages; blocks = inner.blocks; lengths = inner.lengths; bytes = inner.bytes }
