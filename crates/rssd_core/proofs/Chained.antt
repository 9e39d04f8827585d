-- Steps one after another: what they keep, the calls that they make, and the book changes that they are.
use Rattle.std.proofs.Common.{◌≡◌, ◌⊎◌, inl, inr, ℕ, ◌+◌, ◌<◌, ◌≤◌, Bool, true, cond, List, [], ◌∷◌, ◌++◌, Option, Some, None, refl, ◌∙◌, subst, arith}
use Rattle.std.specs.Prelude.{IsSomeAnd}
use Rattle.std.specs.List.{count_by}
use Rattle.std.proofs.lemmas.List.Sums.{sum_by-append}
use Rattle.cell_die.specs.DieState.{DieState, Failures}
use Rattle.cell_die.specs.Calls.{Kept, Passed, PassedWithin, ChangeFailed, ReadFailed, Nearer, NearerWithin, WhilePowered}
use Rattle.cell_die.specs.Calls as cell
use Rattle.cell_die.specs.Changed.{IsChanged}
use Rattle.cell_die.specs.Counts.{Rose, Stayed}
use Rattle.cell_die.proofs.Changed.{changed_trans, told_cut, told_trans}
use Rattle.cell_die.proofs.Sequences.{kept_trans, passed_trans, passed_within}
use Rattle.block_state.specs.Book.{BookValue}
use Rattle.page_codec.specs.Geometry.{Geometry}
use Rattle.page_codec.specs.Sound.{IsSound}
use Rattle.collector.specs.Store.{Store, Holds}
use Rattle.rssd_core.specs.BookChanges.{Change, Leads, UsesRule}
use Rattle.rssd_core.specs.Failures.{TellsPower, CutCame, cut_in, cut_of}
use Rattle.rssd_core.specs.Within.{Went}

-- what calls one after another keep
pub holds_trans : (g : Geometry) (old mid new : Store) → Holds g old mid → Holds g mid new → Holds g old new
holds_trans g old mid new first then = record {
  kept = kept_trans first.kept then.kept;
  pads = λ none. then.pads (first.pads none);
  sound = λ sound. then.sound (first.sound sound);
  seqs = omega (arith, first.seqs, then.seqs);
  drew = λ why place h e. elim (then.drew (later why) place h e) [
    | inl stood ↦ elim (first.drew (before why) place h stood) [
      | inl was ↦ inl was
      | inr drawn ↦ inr (drawn.0, omega (arith, drawn.1, then.seqs))
    ]
    | inr drawn ↦ inr (omega (arith, drawn.0, first.seqs), drawn.1)
  ];
}
  where
    before : IsSound g old.die.cells ⊎ Stayed old.die.change_faults new.die.change_faults → IsSound g old.die.cells ⊎ Stayed old.die.change_faults mid.die.change_faults
    before (inl sound) = inl sound
    before (inr stayed) = inr (omega (arith, stayed, then.kept.change_faults))

    later : IsSound g old.die.cells ⊎ Stayed old.die.change_faults new.die.change_faults → IsSound g mid.die.cells ⊎ Stayed mid.die.change_faults new.die.change_faults
    later (inl sound) = inl (first.sound sound)
    later (inr stayed) = inr (omega (arith, stayed, first.kept.change_faults))

-- ---- calls

nearer_within : (c r d s : ℕ) (a b e : Failures) → NearerWithin c r a b → NearerWithin d s b e → NearerWithin (c + d) (r + s) a e
nearer_within c r d s a b e first then = record {
  powered = then.powered;
  cut = omega (arith, first.cut, then.cut);
  cut_to_come = λ armed. (let near = first.cut_to_come armed in let later = then.cut_to_come (omega (arith, first.cut, near)) in omega (arith, first.cut, near, later));
  read_failure = omega (arith, first.read_failure, then.read_failure);
  no_later = omega (arith, first.no_later, then.no_later);
  read_failure_to_come = λ armed. then.read_failure_to_come (first.read_failure_to_come armed);
  form = λ armed. then.form armed ∙ first.form (omega (arith, then.cut, armed));
}

while_within : (c r d s : ℕ) (x y z : Option Failures) → WhilePowered x y (NearerWithin c r) → WhilePowered y z (NearerWithin d s) → WhilePowered x z (NearerWithin (c + d) (r + s))
while_within c r d s None y z first then = tt
while_within c r d s (Some a) None z first then = absurd first
while_within c r d s (Some a) (Some b) None first then = absurd then
while_within c r d s (Some a) (Some b) (Some e) first then = λ powered. nearer_within c r d s a b e (first powered) (then (first powered).powered)

pub within_trans : (c r d s : ℕ) (old mid new : DieState) → PassedWithin c r old mid → PassedWithin d s mid new → PassedWithin (c + d) (r + s) old new
within_trans c r d s old mid new first then = record {
  read_faults = then.read_faults ∙ first.read_faults;
  change_faults = then.change_faults ∙ first.change_faults;
  failures = while_within c r d s old.failures mid.failures new.failures first.failures then.failures;
  changed =
      told_trans (IsChanged c old mid) (IsChanged d mid new) (IsChanged (c + d) old new) (NearerWithin c r) (λ a b near. near.powered)
      (changed_trans c d old mid new) old.failures mid.failures new.failures first.failures first.changed then.changed;
}

pub went_trans : (c r d s : ℕ) (Bounded : Type 0) (old mid new : DieState) → Went c r Bounded old mid → Passed d s mid new → Went (c + d) (r + s) Bounded old new
went_trans c r d s Bounded old mid new first then = record {
  within = within_trans c r d s old mid new first.within (passed_within s (omega arith) then);
  exact = λ free. passed_trans (first.exact free) then;
}

pub went_passed : (c r : ℕ) (Bounded : Type 0) (old new : DieState) → Passed c r old new → Went c r Bounded old new
went_passed c r Bounded old new passed = record { within = passed_within r (omega arith) passed; exact = λ free. passed }

cut_after : (c r d s : ℕ) (a b e : Failures) → NearerWithin c r a b → cell.CutCame d s b e → cell.CutCame (c + d) (r + s) a e
cut_after c r d s a b e first then = record {
  armed = omega (arith, first.cut, then.armed);
  within = omega (arith, first.cut, then.within);
  gone = then.gone;
  read_failure = omega (arith, first.read_failure, then.read_failure);
  no_later = omega (arith, first.no_later, then.no_later);
  read_failure_to_come = λ armed. then.read_failure_to_come (first.read_failure_to_come armed);
}

while_cut : (c r d s : ℕ) (x y z : Option Failures) → WhilePowered x y (NearerWithin c r) → WhilePowered y z (cell.CutCame d s) → WhilePowered x z (cell.CutCame (c + d) (r + s))
while_cut c r d s None y z first then = tt
while_cut c r d s (Some a) None z first then = absurd first
while_cut c r d s (Some a) (Some b) None first then = absurd then
while_cut c r d s (Some a) (Some b) (Some e) first then = λ powered. cut_after c r d s a b e (first powered) (then (first powered).powered)

pub change_failed_then : (c r d s : ℕ) (old mid new : DieState) → PassedWithin c r old mid → ChangeFailed d s mid new → ChangeFailed (c + d) (r + s) old new
change_failed_then c r d s old mid new first then = record {
  read_faults = then.read_faults ∙ first.read_faults;
  change_faults = subst (λ (n : ℕ). Rose n new.change_faults) first.change_faults then.change_faults;
  failures = while_cut c r d s old.failures mid.failures new.failures first.failures then.failures;
  cut = told_cut c (NearerWithin c r) (cell.CutCame d s) old mid new (λ a b near. near.powered) (λ x y z near came. (near.cut, came.armed, near.form came.armed))
      old.failures mid.failures new.failures first.failures first.changed then.failures then.cut;
}

-- a cut that came after so many calls was to come after them
pub cut_later : (c r d s : ℕ) (old mid new : DieState) → PassedWithin c r old mid → ChangeFailed d s mid new → TellsPower old → CutCame old new → c < cut_of old
cut_later c r d s old mid new first then power came = at old.failures mid.failures first.failures power came.0
  where
    at : (x y : Option Failures) → WhilePowered x y (NearerWithin c r) → IsSomeAnd x (λ failures. failures.powered ≡ true) → 0 < cut_in x → c < cut_in x
    at None y near power armed = absurd (omega arith)
    at (Some a) None near power armed = absurd near
    at (Some a) (Some b) near power armed = (near power).cut_to_come armed

-- a cut that came was at most so many calls away
pub cut_within : (c r : ℕ) (old new : DieState) → ChangeFailed c r old new → TellsPower old → CutCame old new → cut_of old ≤ c
cut_within c r old new failed power came = at old.failures new.failures failed.failures power came.0
  where
    at : (x y : Option Failures) → WhilePowered x y (cell.CutCame c r) → IsSomeAnd x (λ failures. failures.powered ≡ true) → 0 < cut_in x → cut_in x ≤ c
    at None y cut power armed = absurd (omega arith)
    at (Some a) None cut power armed = absurd cut
    at (Some a) (Some b) cut power armed = (cut power).within

-- where a read failed no cut came
pub read_failed_no_cut : (c r : ℕ) (old new : DieState) → ReadFailed c r old new → TellsPower old → CutCame old new → ⊥
read_failed_no_cut c r old new failed power came = at old.failures new.failures failed.failures power came.0 came.1
  where
    at : (x y : Option Failures) → WhilePowered x y (cell.ReadFailureCame c r) → IsSomeAnd x (λ failures. failures.powered ≡ true) → 0 < cut_in x → cut_in y ≡ 0 → ⊥
    at None y read power armed gone = absurd (omega arith)
    at (Some a) None read power armed gone = absurd read
    at (Some a) (Some b) read power armed gone = let to_come = (read power).cut_to_come armed in omega (arith, to_come, gone)

-- where no call failed no cut came
pub no_cut_came : (c r : ℕ) (old new : DieState) → PassedWithin c r old new → TellsPower old → CutCame old new → ⊥
no_cut_came c r old new passed power came = at old.failures new.failures passed.failures power came.0 came.1
  where
    at : (x y : Option Failures) → WhilePowered x y (NearerWithin c r) → IsSomeAnd x (λ failures. failures.powered ≡ true) → 0 < cut_in x → cut_in y ≡ 0 → ⊥
    at None y near power armed gone = absurd (omega arith)
    at (Some a) None near power armed gone = absurd near
    at (Some a) (Some b) near power armed gone = let n = near power in omega (arith, n.cut, n.cut_to_come armed, gone, armed)

-- ---- book changes

pub leads_append : (r : ℕ) (v m w : BookValue) (xs ys : List Change) → Leads r v xs m → Leads r m ys w → Leads r v (xs ++ ys) w
unfolding Leads
leads_append r v m w [] ys first then = subst (λ (u : BookValue). Leads r u ys w) first then
leads_append r v m w (x ∷ xs) ys first then = (first.0, first.1, leads_append r first.0 m w xs ys first.2 then)

pub leads_one : (r : ℕ) (v w : BookValue) (change : Change) → UsesRule r v change w → Leads r v (change ∷ []) w
unfolding Leads
leads_one r v w change uses = (w, uses, refl)

pub leads_none : (r : ℕ) (v : BookValue) → Leads r v [] v
unfolding Leads
leads_none r v = refl

pub count_by-append : {X : Type 0} (p : X → Bool) (xs ys : List X) → count_by p (xs ++ ys) ≡ count_by p xs + count_by p ys
count_by-append p xs ys = sum_by-append (λ x. cond (p x) 1 0) xs ys
