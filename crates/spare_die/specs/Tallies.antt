-- What a die that replaces bad blocks counts, and how its calls count.
use Rattle.std.specs.Prelude.{◌≡◌, ◌≢◌, ℕ, ◌≤◌, length, slice_index, Result, Ok, Err}
use Rattle.cell_die.specs.declared.shape.DieFault.{DieFault}
use Rattle.cell_die.specs.declared.worn.Erased.{Erased}
use Rattle.cell_die.specs.declared.worn.Erased.TheVariants.{Clean, Bad}
use Rattle.cell_die.specs.Counts.{raised}
use Rattle.spare_die.specs.declared.tally.Tally.{Tally}
use Rattle.spare_die.specs.Spare.{Own}

-- what the counts tell of the die
abbrev pub own_of : Tally → Own
own_of tally = record {
  erases = tally.erases.items;
  read_faults = tally.read_faults;
  change_faults = tally.change_faults;
  named_at_opening = tally.named_at_opening;
  pages_at_opening = tally.pages_at_opening;
}

-- what the die counts for itself may only rise, and the numbers of its opening stay
pub record OwnLater (old new : Own) : Type 0 where
  pub named : new.named_at_opening ≡ old.named_at_opening
  pub pages : new.pages_at_opening ≡ old.pages_at_opening
  pub read_faults : old.read_faults ≤ new.read_faults
  pub change_faults : old.change_faults ≤ new.change_faults

-- this block's erase count is one higher, and the others are as they were
pub record CountsUp (block : ℕ) (old new : Own) : Type 0 where
  pub here : slice_index new.erases block ≡ raised (slice_index old.erases block)
  pub higher : slice_index old.erases block ≤ slice_index new.erases block
  pub others : (other : ℕ) → other ≢ block → slice_index new.erases other ≡ slice_index old.erases other

-- nothing but erase counts changes
pub record SameButErases (old new : Tally) : Type 0 where
  pub blocks : length new.erases.items ≡ length old.erases.items
  pub read_faults : new.read_faults ≡ old.read_faults
  pub change_faults : new.change_faults ≡ old.change_faults
  pub bad : new.bad ≡ old.bad
  pub written : new.written ≡ old.written
  pub named_at_opening : new.named_at_opening ≡ old.named_at_opening
  pub pages_at_opening : new.pages_at_opening ≡ old.pages_at_opening
  pub stopped : new.stopped ≡ old.stopped

-- the counts of faults and the numbers of the opening stay
pub record SameFaults (old new : Own) : Type 0 where
  pub named : new.named_at_opening ≡ old.named_at_opening
  pub pages : new.pages_at_opening ≡ old.pages_at_opening
  pub read_faults : new.read_faults ≡ old.read_faults
  pub change_faults : new.change_faults ≡ old.change_faults

-- all counts stay but for that of failed change calls, which may rise
pub record SameCounts (old new : Own) : Type 0 where
  pub erases : new.erases ≡ old.erases
  pub named : new.named_at_opening ≡ old.named_at_opening
  pub pages : new.pages_at_opening ≡ old.pages_at_opening
  pub read_faults : new.read_faults ≡ old.read_faults
  pub change_faults : old.change_faults ≤ new.change_faults

-- the number of erases that answered Bad, after this answer
abbrev pub bad_after : Result Erased DieFault → ℕ → ℕ
bad_after (Ok Clean) bad = bad
bad_after (Ok Bad) bad = raised bad
bad_after (Err fault) bad = bad
