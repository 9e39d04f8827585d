-- What the calls of a die with power change: nothing but what it tells of its failures to come.
use Rattle.std.specs.Prelude.{ℕ, true}
use Rattle.std.specs.Option.{option_map}
use Rattle.cell_die.specs.declared.shape.Torn.{Torn}
use Rattle.cell_die.specs.DieState.{DieState, Failures}

-- the die with this change of what it tells, where it tells it
abbrev pub told : (Failures → Failures) → DieState → DieState
told change die = record die { failures = option_map change die.failures }

abbrev pub with_cut : ℕ → Torn → Failures → Failures
with_cut n torn failures = record failures { cut = n; form = torn }

abbrev pub with_read_failure : ℕ → Failures → Failures
with_read_failure n failures = record failures { read_failure = n }

abbrev pub with_power : Failures → Failures
with_power failures = record failures { powered = true }
