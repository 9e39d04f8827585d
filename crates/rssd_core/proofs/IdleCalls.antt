-- Calls that all passed, their reads bounded only, and then some of which the last, a read, failed.
use Rattle.std.proofs.Common.{ℕ, ◌+◌, Option, Some, None, ◌∙◌, subst, arith}
use Rattle.cell_die.specs.DieState.{DieState, Failures}
use Rattle.cell_die.specs.Counts.{Rose}
use Rattle.cell_die.specs.Calls.{PassedWithin, ReadFailed, NearerWithin, ReadFailureCame, WhilePowered}

read_came_after : (c r d s : ℕ) (a b e : Failures) → NearerWithin c r a b → ReadFailureCame d s b e → ReadFailureCame (c + d) (r + s) a e
read_came_after c r d s a b e near came = record {
  powered = came.powered;
  armed = omega (arith, near.no_later, came.armed);
  within = omega (arith, near.read_failure, came.within);
  gone = came.gone;
  cut = omega (arith, near.cut, came.cut);
  no_later = omega (arith, near.cut, came.no_later);
  cut_to_come = λ armed. came.cut_to_come (let later = near.cut_to_come armed in omega (arith, near.cut, later));
  form = λ armed. came.form armed ∙ near.form (omega (arith, came.no_later, armed));
}

while_read : (c r d s : ℕ) (x y z : Option Failures) → WhilePowered x y (NearerWithin c r) → WhilePowered y z (ReadFailureCame d s) → WhilePowered x z (ReadFailureCame (c + d) (r + s))
while_read c r d s None y z first then = tt
while_read c r d s (Some a) None z first then = absurd first
while_read c r d s (Some a) (Some b) None first then = absurd then
while_read c r d s (Some a) (Some b) (Some e) first then = λ powered. read_came_after c r d s a b e (first powered) (then (first powered).powered)

pub read_failed_then : (c r d s : ℕ) (old mid new : DieState) → PassedWithin c r old mid → ReadFailed d s mid new → ReadFailed (c + d) (r + s) old new
read_failed_then c r d s old mid new first then = record {
  read_faults = subst (λ (n : ℕ). Rose n new.read_faults) first.read_faults then.read_faults;
  change_faults = then.change_faults ∙ first.change_faults;
  failures = while_read c r d s old.failures mid.failures new.failures first.failures then.failures;
}
