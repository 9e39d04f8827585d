-- A die with power and nothing armed never fails, and stays so.
use Rattle.std.proofs.Common.{◌≡◌, ℕ, true, Option, None, Some, arith}
use Rattle.std.specs.Prelude.{IsSomeAnd}
use Rattle.cell_die.specs.DieState.{DieState, Failures}
use Rattle.cell_die.specs.Calls.{IsQuiet, WhilePowered, Nearer, NearerWithin, CutCame, ReadFailureCame, Passed, PassedWithin, ChangeFailed, ReadFailed}

abbrev Quiet : Failures → Type 0
Quiet failures = (failures.powered ≡ true) × (failures.cut ≡ 0) × (failures.read_failure ≡ 0)

stays : (changes reads : ℕ) (x y : Option Failures) → IsSomeAnd x Quiet → WhilePowered x y (Nearer changes reads) → IsSomeAnd y Quiet
stays changes reads None y quiet near = absurd quiet
stays changes reads (Some a) None quiet near = absurd near
stays changes reads (Some a) (Some b) quiet near =
    let nearer : Nearer changes reads a b = near quiet.0 in
    (nearer.powered, omega (arith, nearer.cut, quiet.1), omega (arith, nearer.read_failure, quiet.2))

no_cut : (changes reads : ℕ) (x y : Option Failures) → IsSomeAnd x Quiet → WhilePowered x y (CutCame changes reads) → ⊥
no_cut changes reads None y quiet came = quiet
no_cut changes reads (Some a) None quiet came = came
no_cut changes reads (Some a) (Some b) quiet came = let cut : CutCame changes reads a b = came quiet.0 in absurd (omega (arith, cut.armed, quiet.1))

no_read_failure : (changes reads : ℕ) (x y : Option Failures) → IsSomeAnd x Quiet → WhilePowered x y (ReadFailureCame changes reads) → ⊥
no_read_failure changes reads None y quiet came = quiet
no_read_failure changes reads (Some a) None quiet came = came
no_read_failure changes reads (Some a) (Some b) quiet came = let read : ReadFailureCame changes reads a b = came quiet.0 in absurd (omega (arith, read.armed, quiet.2))

pub quiet_stays : {old new : DieState} {changes reads : ℕ} → IsQuiet old → Passed changes reads old new → IsQuiet new
quiet_stays {old} {new} {changes} {reads} quiet passed = stays changes reads old.failures new.failures quiet passed.failures

pub quiet_change : {old new : DieState} {changes reads : ℕ} → IsQuiet old → ChangeFailed changes reads old new → ⊥
quiet_change {old} {new} {changes} {reads} quiet failed = no_cut changes reads old.failures new.failures quiet failed.failures

pub quiet_read : {old new : DieState} {changes reads : ℕ} → IsQuiet old → ReadFailed changes reads old new → ⊥
quiet_read {old} {new} {changes} {reads} quiet failed = no_read_failure changes reads old.failures new.failures quiet failed.failures

stays_within : (changes reads : ℕ) (x y : Option Failures) → IsSomeAnd x Quiet → WhilePowered x y (NearerWithin changes reads) → IsSomeAnd y Quiet
stays_within changes reads None y quiet near = absurd quiet
stays_within changes reads (Some a) None quiet near = absurd near
stays_within changes reads (Some a) (Some b) quiet near =
    let nearer : NearerWithin changes reads a b = near quiet.0 in
    (nearer.powered, omega (arith, nearer.cut, quiet.1), omega (arith, nearer.no_later, quiet.2))

pub quiet_stays_within : {old new : DieState} {changes reads : ℕ} → IsQuiet old → PassedWithin changes reads old new → IsQuiet new
quiet_stays_within {old} {new} {changes} {reads} quiet passed = stays_within changes reads old.failures new.failures quiet passed.failures
