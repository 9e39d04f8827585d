-- Armed failures of a die as numbers: 0 where none is armed, or where the die does not tell.
use Rattle.std.specs.Prelude.{◌≡◌, ℕ, ◌+◌, ◌-◌, ◌<◌, ◌≤◌, true, Option, None, Some, IsSomeAnd}
use Rattle.cell_die.specs.declared.shape.Torn.{Torn}
use Rattle.cell_die.specs.declared.shape.Torn.TheVariants.{Nothing}
use Rattle.cell_die.specs.DieState.{DieState, Failures}

abbrev pub cut_in : Option Failures → ℕ
cut_in None = 0
cut_in (Some failures) = failures.cut

abbrev pub form_in : Option Failures → Torn
form_in None = Nothing
form_in (Some failures) = failures.form

abbrev pub read_in : Option Failures → ℕ
read_in None = 0
read_in (Some failures) = failures.read_failure

-- in how many change calls the armed cut comes
abbrev pub cut_of : DieState → ℕ
cut_of die = cut_in die.failures

-- the form of the armed cut
abbrev pub form_of : DieState → Torn
form_of die = form_in die.failures

-- in how many reads the armed read failure comes
abbrev pub read_failure_of : DieState → ℕ
read_failure_of die = read_in die.failures

-- an armed failure came: it was armed before and is no longer
abbrev pub CutCame : DieState → DieState → Type 0
CutCame old new = (0 < cut_of old) × (cut_of new ≡ 0)

abbrev pub ReadFailureCame : DieState → DieState → Type 0
ReadFailureCame old new = (0 < read_failure_of old) × (read_failure_of new ≡ 0)

-- so many calls: an armed number is lower by as many and has not come; where none is armed, none is
pub record Lower (calls before now : ℕ) : Type 0 where
  pub lower : now ≡ before - calls
  pub to_come : 0 < before → calls < before

-- at most so many calls
pub record LowerWithin (calls before now : ℕ) : Type 0 where
  pub within : before ≤ now + calls
  pub no_later : now ≤ before
  pub to_come : 0 < before → 0 < now

-- the die tells its power and its armed failures
abbrev pub Tells : DieState → Type 0
Tells die = IsSomeAnd die.failures (λ failures. Unit {0})

-- and it has power
abbrev pub TellsPower : DieState → Type 0
TellsPower die = IsSomeAnd die.failures (λ failures. failures.powered ≡ true)

-- How a call that did not fail moves the armed failures: so many change calls, and so many reads, or at most so many.
pub record Lowers (changes reads : ℕ) (Bounded : Type 0) (old new : DieState) : Type 0 where
  pub cut : Lower changes (cut_of old) (cut_of new)
  pub form : 0 < cut_of new → form_of new ≡ form_of old
  pub read : (Bounded → ⊥) → Lower reads (read_failure_of old) (read_failure_of new)
  pub read_bound : LowerWithin reads (read_failure_of old) (read_failure_of new)
