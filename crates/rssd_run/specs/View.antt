-- What a session is seen as between two lines, and one line with what it was answered.
use Rattle.std.specs.Prelude.{◌≡◌, ◌⊎◌, ℕ, List}
use Rattle.cell_die.specs.Counts.{count_sum, sum_of}
use Rattle.cell_die.specs.DieState.{DieState}
use Rattle.rssd_script.specs.declared.lines.Line.{Line}
use Rattle.rssd_script.specs.declared.lines.Line.TheVariants.{Write, Trim, Idle}
use Rattle.rssd_script.specs.declared.replies.Reply.{Reply}
use Rattle.rssd_core.specs.DeviceValue.{Numbers, DeviceView, rows_of}
use Rattle.rssd_core.specs.Failures.{CutCame, ReadFailureCame}
use Rattle.rssd_run.specs.ArrayWithCuts.{ArrayState, On, Off}

-- the die, the book, the next seq and the session's tallies, and the state of the sector array with power cuts
pub record View : Type 0 where
  pub device : DeviceView
  pub array : ArrayState

-- a line, its reply, and the views before and after it
pub record Event : Type 0 where
  pub line : Line
  pub reply : Reply
  pub before : View
  pub after : View

-- these sectors are the array's; while it is off, one of its two states is they
abbrev pub IsArrayOf : List (List ℕ) → ArrayState → Type 0
IsArrayOf sectors (On rows) = sectors ≡ rows
IsArrayOf sectors (Off old new) = (sectors ≡ old) ⊎ (sectors ≡ new)

abbrev pub StandsFor : Numbers → View → Type 0
StandsFor d view = IsArrayOf (rows_of d view.device) view.array

abbrev pub IsOn : ArrayState → Type 0
IsOn (On rows) = Unit {0}
IsOn (Off old new) = ⊥

abbrev pub IsOff : ArrayState → Type 0
IsOff (On rows) = ⊥
IsOff (Off old new) = Unit {0}

-- the count of faults is the sum of its two parts
abbrev pub faults : DieState → ℕ
faults die = count_sum die.read_faults die.change_faults

-- an armed failure came in the step
abbrev pub ACut : Event → Type 0
ACut e = CutCame e.before.device.die e.after.device.die

abbrev pub AReadFailure : Event → Type 0
AReadFailure e = ReadFailureCame e.before.device.die e.after.device.die

-- no die call failed
abbrev pub NoFailure : Event → Type 0
NoFailure e = ACut e ⊎ AReadFailure e → ⊥

-- the sum of the die's erase counts
abbrev pub erased : View → ℕ
erased view = sum_of view.device.die.erases

-- whether a line may change the array: write, trim and idle
abbrev pub IsCommand : Line → Type 0
IsCommand (Write sector bytes) = Unit {0}
IsCommand (Trim sector) = Unit {0}
IsCommand (Idle n) = Unit {0}
IsCommand line = ⊥
