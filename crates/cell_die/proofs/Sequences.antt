-- One run of die calls after another.
use Rattle.std.proofs.Common.{◌≡◌, ℕ, ◌+◌, ◌≤◌, true, Option, None, Some, Result, Ok, Err, OnOk, OnErr, refl, arith, ◌∙◌}
use Rattle.cell_bits.proofs.Above.{above_refl, above_trans}
use Rattle.cell_die.specs.Counts.{Stayed}
use Rattle.cell_die.specs.DieState.{DieState, Failures, page_of, block_of, erases_of}
use Rattle.cell_die.specs.Changes.{NeverFalls}
use Rattle.cell_die.specs.Changed.{IsChanged}
use Rattle.cell_die.proofs.Changed.{changed_none, changed_trans, told_any, told_trans, told_cut}
use Rattle.cell_die.specs.Calls.{Kept, WhilePowered, Nearer, NearerWithin, CutCame, ReadFailureCame, Passed, PassedWithin, ChangeFailed, ReadFailed}

pub never_falls_refl : (die : DieState) → NeverFalls die die
never_falls_refl die = record { counts = λ block. omega arith; cells = λ page stayed. above_refl (page_of die page) }

pub never_falls_trans : (old mid new : DieState) → mid.shape ≡ old.shape → NeverFalls old mid → NeverFalls mid new → NeverFalls old new
never_falls_trans old mid new shape first second = record {
  counts = λ block. omega (arith, first.counts block, second.counts block);
  cells = λ page stayed.
      let block : ℕ = block_of old page in
      let low : erases_of old block ≤ erases_of mid block = first.counts block in
      let high : erases_of mid block ≤ erases_of new block = second.counts block in
      let so_far : Stayed (erases_of old block) (erases_of mid block) = omega arith in
      let rest : Stayed (erases_of mid block) (erases_of new block) = omega arith in
      let rest' : Stayed (erases_of mid (block_of mid page)) (erases_of new (block_of mid page)) = rw shape rest in
      above_trans (page_of new page) (page_of mid page) (page_of old page) (second.cells page rest') (first.cells page so_far);
}

pub kept_refl : (die : DieState) → Kept die die
kept_refl die = record { shape = refl; fixed = refl; never_falls = never_falls_refl die; read_faults = omega arith; change_faults = omega arith }

pub kept_trans : {old mid new : DieState} → Kept old mid → Kept mid new → Kept old new
kept_trans {old} {mid} {new} first second = record {
  shape = second.shape ∙ first.shape;
  fixed = second.fixed ∙ first.fixed;
  never_falls = never_falls_trans old mid new first.shape first.never_falls second.never_falls;
  read_faults = omega arith;
  change_faults = omega arith;
}

-- what holds of two runs, the first of which leaves the power on, holds of both together
WhilePowered-trans : (P Q R : Failures → Failures → Type 0) → ((a b : Failures) → P a b → b.powered ≡ true) → ((a b c : Failures) → P a b → Q b c → R a c)
    → (x y z : Option Failures) → WhilePowered x y P → WhilePowered y z Q → WhilePowered x z R
WhilePowered-trans P Q R power both None y z first second = tt
WhilePowered-trans P Q R power both (Some a) None z first second = absurd first
WhilePowered-trans P Q R power both (Some a) (Some b) None first second = second
WhilePowered-trans P Q R power both (Some a) (Some b) (Some c) first second =
    λ powered. both a b c (first powered) (second (power a b (first powered)))

Nearer-trans : (c r d s : ℕ) → (x y z : Failures) → Nearer c r x y → Nearer d s y z → Nearer (c + d) (r + s) x z
Nearer-trans c r d s x y z near far = record {
  powered = far.powered;
  cut = omega arith;
  cut_to_come = λ armed. omega arith;
  read_failure = omega arith;
  read_failure_to_come = λ armed. omega arith;
  form = λ armed. far.form armed ∙ near.form (omega arith);
}

CutCame-after : (c r d s : ℕ) → (x y z : Failures) → Nearer c r x y → CutCame d s y z → CutCame (c + d) (r + s) x z
CutCame-after c r d s x y z near came = record {
  armed = omega arith;
  within = omega arith;
  gone = came.gone;
  read_failure = omega arith;
  no_later = omega arith;
  read_failure_to_come = λ armed. came.read_failure_to_come (omega (arith, near.read_failure_to_come armed));
}

ReadFailureCame-after : (c r d s : ℕ) → (x y z : Failures) → Nearer c r x y → ReadFailureCame d s y z → ReadFailureCame (c + d) (r + s) x z
ReadFailureCame-after c r d s x y z near came = record {
  powered = came.powered;
  armed = omega arith;
  within = omega arith;
  gone = came.gone;
  cut = omega arith;
  no_later = omega arith;
  cut_to_come = λ armed. came.cut_to_come (omega (arith, near.cut_to_come armed));
  form = λ armed. came.form armed ∙ near.form (omega arith);
}

-- calls that passed, and then more of them
pub passed_trans : {old mid new : DieState} {c r d s : ℕ} → Passed c r old mid → Passed d s mid new → Passed (c + d) (r + s) old new
passed_trans {old} {mid} {new} {c} {r} {d} {s} first second = record {
  read_faults = second.read_faults ∙ first.read_faults;
  change_faults = second.change_faults ∙ first.change_faults;
  failures =
      WhilePowered-trans (Nearer c r) (Nearer d s) (Nearer (c + d) (r + s)) (λ a b near. near.powered) (Nearer-trans c r d s) old.failures mid.failures new.failures first.failures second.failures;
  changed =
      told_trans (IsChanged c old mid) (IsChanged d mid new) (IsChanged (c + d) old new) (Nearer c r) (λ a b near. near.powered)
      (changed_trans c d old mid new) old.failures mid.failures new.failures first.failures first.changed second.changed;
}

-- calls that passed, and then some of which the last, a change call, failed
pub change_failed_after : {old mid new : DieState} {c r d s : ℕ} → Passed c r old mid → ChangeFailed d s mid new → ChangeFailed (c + d) (r + s) old new
change_failed_after {old} {mid} {new} {c} {r} {d} {s} first second = record {
  read_faults = second.read_faults ∙ first.read_faults;
  change_faults = rw first.change_faults at second.change_faults;
  failures =
      WhilePowered-trans (Nearer c r) (CutCame d s) (CutCame (c + d) (r + s)) (λ a b near. near.powered) (CutCame-after c r d s) old.failures mid.failures new.failures first.failures second.failures;
  cut = told_cut c (Nearer c r) (CutCame d s) old mid new (λ a b near. near.powered) (λ x y z near came. (near.cut, came.armed, near.form came.armed))
      old.failures mid.failures new.failures first.failures first.changed second.failures second.cut;
}

-- calls that passed, and then some of which the last, a read, failed
pub read_failed_after : {old mid new : DieState} {c r d s : ℕ} → Passed c r old mid → ReadFailed d s mid new → ReadFailed (c + d) (r + s) old new
read_failed_after {old} {mid} {new} {c} {r} {d} {s} first second = record {
  read_faults = rw first.read_faults at second.read_faults;
  change_faults = second.change_faults ∙ first.change_faults;
  failures =
      WhilePowered-trans (Nearer c r) (ReadFailureCame d s) (ReadFailureCame (c + d) (r + s)) (λ a b near. near.powered)
      (ReadFailureCame-after c r d s) old.failures mid.failures new.failures first.failures second.failures;
}

WhilePowered-map : (P Q : Failures → Failures → Type 0) → ((a b : Failures) → P a b → Q a b) → (x y : Option Failures) → WhilePowered x y P → WhilePowered x y Q
WhilePowered-map P Q maps None y holds = tt
WhilePowered-map P Q maps (Some a) None holds = absurd holds
WhilePowered-map P Q maps (Some a) (Some b) holds = λ powered. maps a b (holds powered)

-- a bound on the calls may be higher
pub change_failed_within : {old new : DieState} {c r : ℕ} (changes reads : ℕ) → c ≤ changes → r ≤ reads → ChangeFailed c r old new → ChangeFailed changes reads old new
change_failed_within {old} {new} {c} {r} changes reads fewer_changes fewer_reads failed = record {
  read_faults = failed.read_faults;
  change_faults = failed.change_faults;
  failures = WhilePowered-map (CutCame c r) (CutCame changes reads) (λ a b came. record {
    armed = came.armed;
    within = omega arith;
    gone = came.gone;
    read_failure = omega arith;
    no_later = came.no_later;
    read_failure_to_come = came.read_failure_to_come;
  }) old.failures new.failures failed.failures;
  cut = failed.cut;
}

pub read_failed_within : {old new : DieState} {c r : ℕ} (changes reads : ℕ) → c ≤ changes → r ≤ reads → ReadFailed c r old new → ReadFailed changes reads old new
read_failed_within {old} {new} {c} {r} changes reads fewer_changes fewer_reads failed = record {
  read_faults = failed.read_faults;
  change_faults = failed.change_faults;
  failures = WhilePowered-map (ReadFailureCame c r) (ReadFailureCame changes reads) (λ a b came. record {
    powered = came.powered;
    armed = came.armed;
    within = omega arith;
    gone = came.gone;
    cut = omega arith;
    no_later = came.no_later;
    cut_to_come = came.cut_to_come;
    form = came.form;
  }) old.failures new.failures failed.failures;
}

-- no call
pub passed_none : (die : DieState) → Passed 0 0 die die
passed_none die = record {
  read_faults = refl;
  change_faults = refl;
  failures = same die.failures;
  changed = told_any (Nearer 0 0) (λ before now. IsChanged 0 die die) (λ a b. changed_none die die refl (record { cells = refl; erases = refl })) die.failures die.failures (same die.failures);
} where
  same : (x : Option Failures) → WhilePowered x x (Nearer 0 0)
  same None = tt
  same (Some a) = λ powered. record {
    powered = powered;
    cut = omega arith;
    cut_to_come = λ armed. armed;
    read_failure = omega arith;
    read_failure_to_come = λ armed. armed;
    form = λ armed. refl;
  }

-- exact numbers of reads are bounds
pub passed_within : {old new : DieState} {changes r : ℕ} (reads : ℕ) → r ≤ reads → Passed changes r old new → PassedWithin changes reads old new
passed_within {old} {new} {changes} {r} reads fewer passed = record {
  read_faults = passed.read_faults;
  change_faults = passed.change_faults;
  failures = WhilePowered-map (Nearer changes r) (NearerWithin changes reads) (λ a b near. record {
    powered = near.powered;
    cut = near.cut;
    cut_to_come = near.cut_to_come;
    read_failure = omega arith;
    no_later = omega arith;
    read_failure_to_come = λ armed. omega (arith, near.read_failure_to_come armed);
    form = near.form;
  }) old.failures new.failures passed.failures;
  changed = passed.changed;
}

-- the same of calls whose result is to be seen
pub ok_then : {T E : Type 0} {c r : ℕ} (d s : ℕ) (old mid new : DieState) (result : Result T E) → Passed c r old mid → OnOk result (Passed d s mid new) → OnOk result (Passed (c + d) (r + s) old new)
ok_then {T} {E} {c} {r} d s old mid new (Ok value) first second = passed_trans first second
ok_then {T} {E} {c} {r} d s old mid new (Err error) first second = tt

pub err_then : {T E : Type 0} {c r : ℕ} (d s : ℕ) (old mid new : DieState) (result : Result T E) → Passed c r old mid → OnErr result (ChangeFailed d s mid new)
    → OnErr result (ChangeFailed (c + d) (r + s) old new)
err_then {T} {E} {c} {r} d s old mid new (Ok value) first second = tt
err_then {T} {E} {c} {r} d s old mid new (Err error) first second = change_failed_after first second
