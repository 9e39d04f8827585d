-- Which erase counts a step raises: that of one block at most, by one.
use Rattle.std.specs.Prelude.{◌≡◌, ◌≢◌, ◌⊎◌, ℕ, true, Option, None, Some, Result, Err}
use Rattle.cell_die.specs.Counts.{raised}
use Rattle.cell_die.specs.DieState.{DieState, erases_of}
use Rattle.cell_die.specs.Calls.{ChangeFailed}
use Rattle.block_state.specs.declared.state.State.{State}
use Rattle.block_state.specs.declared.state.State.TheVariants.{Spare}
use Rattle.page_codec.specs.declared.fault.PutFault.{PutFault}
use Rattle.page_codec.specs.declared.fault.PutFault.TheVariants.{Change}

-- the block that a collection erases first: its spare, unless that is known to be blank
abbrev pub erased_in : State → ℕ → Option ℕ
erased_in (Spare true) spare = None
erased_in _ spare = Some spare

-- the erase count of this block is one higher, and no other differs
pub record ErasedOnce (block : ℕ) (old new : DieState) : Type 0 where
  pub count : erases_of new block ≡ raised (erases_of old block)
  pub others : (other : ℕ) → other ≢ block → erases_of new other ≡ erases_of old other

-- the block that was due was erased once, and no other; where none was due, no count differs
abbrev pub Erased : Option ℕ → DieState → DieState → Type 0
Erased None old new = new.erases ≡ old.erases
Erased (Some block) old new = ErasedOnce block old new

-- the same, or that erase was the first change call and the one that failed, and it was not counted
abbrev pub ErasedOrBroken : Option ℕ → DieState → DieState → Type 0
ErasedOrBroken due old new = Erased due old new ⊎ ((new.erases ≡ old.erases) × ChangeFailed 1 0 old new)

-- how a step ends that first erases the block that is due
abbrev pub EraseEnds : {A : Type 0} → Option ℕ → Result A PutFault → DieState → DieState → Type 0
EraseEnds due (Err Change) old new = ErasedOrBroken due old new
EraseEnds due result old new = Erased due old new
