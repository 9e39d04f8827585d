-- What moves nothing but the die's counts and armed failures.
use Rattle.std.proofs.Common.{◌≡◌, ◌⊎◌, inl, inr, ℕ, ◌^◌, ◌≤◌, ◌<◌, List, [], Option, None, Some, true, IsSomeAnd, refl, arith, sym, ◌∙◌}
use Rattle.std.specs.Option.{option_map}
use Rattle.cell_die.specs.declared.shape.Torn.{Torn}
use Rattle.cell_die.specs.DieState.{DieState, Failures}
use Rattle.cell_die.specs.Changes.{SameCells}
use Rattle.cell_die.specs.Power.{told, with_cut, with_read_failure, with_power}
use Rattle.cell_die.proofs.Single.{same_cells_never_fall}
use Rattle.rssd_core.specs.BookChanges.{Change, Leads}
use Rattle.rssd_core.specs.DeviceValue.{Numbers, DeviceView}
use Rattle.rssd_core.specs.Failures.{cut_in, form_in, read_in, cut_of, form_of, read_failure_of, Lowers, Tells, TellsPower}
use Rattle.rssd_core.specs.Moves.{MovesBook, MovesSeq}
use Rattle.rssd_run.specs.Step.{KeepsDie}

pub keeps_die : (d : Numbers) (old new : DieState) → new.shape ≡ old.shape → SameCells old new → (Tells old → Tells new) → KeepsDie d old new
keeps_die d old new shape same tells = record {
  shape = shape;
  tells = tells;
  never_falls = same_cells_never_fall same;
  no_pad = λ h. rw same.cells h;
  sound = λ h. rw same.cells h;
}

pub keeps_cells : (d : Numbers) (old new : DeviceView) → new.die.shape ≡ old.die.shape → SameCells old.die new.die → (Tells old.die → Tells new.die) → KeepsDie d old.die new.die
keeps_cells d old new shape same tells = keeps_die d old.die new.die shape same tells

-- no change of the book
pub same_book : (d : Numbers) (old new : DeviceView) {May : List Change → Type 0} {Rises : List Change → ℕ → Type 0} {AtCut : ℕ → Type 0}
    → new.book ≡ old.book → new.moved ≡ old.moved → old.moved < 2 ^ 64 → AtCut 0 → May [] → Rises [] 0 → MovesBook d May Rises AtCut old new
unfolding Leads
same_book d old new book moved small at_cut may rises = record {
  changes = [];
  leads = book;
  may = may;
  rise = 0;
  rises = rises;
  tally = omega (arith, moved, small);
  at_cut = at_cut;
}

pub same_seq : (d : Numbers) (old new : DeviceView) → new.seq ≡ old.seq → new.die.cells ≡ old.die.cells → MovesSeq d old new
same_seq d old new seq cells = record {
  not_less = omega (arith, seq);
  few = omega (arith, seq);
  headers = λ fresh place h stands. inl (rw (sym cells) stands);
}

pub lowers_none : {Bounded : Type 0} (die : DieState) → Lowers 0 0 Bounded die die
lowers_none die = record {
  cut = record { lower = omega arith; to_come = λ h. h };
  form = λ h. refl;
  read = λ n. record { lower = omega arith; to_come = λ h. h };
  read_bound = record { within = omega arith; no_later = omega arith; to_come = λ h. h };
}

-- arming a failure, none comes
pub armed_cut_none : (n : ℕ) (torn : Torn) → 1 ≤ n → (x : Option Failures)
    → ((0 < cut_in x) × (cut_in (option_map (with_cut n torn) x) ≡ 0)) ⊎ ((0 < read_in x) × (read_in (option_map (with_cut n torn) x) ≡ 0)) → ⊥
armed_cut_none n torn some None (inl h) = omega (arith, h.0)
armed_cut_none n torn some None (inr h) = omega (arith, h.0)
armed_cut_none n torn some (Some a) (inl h) = omega (arith, h.1)
armed_cut_none n torn some (Some a) (inr h) = omega (arith, h.0, h.1)

pub armed_read_none : (n : ℕ) → 1 ≤ n → (x : Option Failures)
    → ((0 < cut_in x) × (cut_in (option_map (with_read_failure n) x) ≡ 0)) ⊎ ((0 < read_in x) × (read_in (option_map (with_read_failure n) x) ≡ 0)) → ⊥
armed_read_none n some None (inl h) = omega (arith, h.0)
armed_read_none n some None (inr h) = omega (arith, h.0)
armed_read_none n some (Some a) (inl h) = omega (arith, h.0, h.1)
armed_read_none n some (Some a) (inr h) = omega (arith, h.1)

-- a change of what a die tells that leaves its power: it tells as before, and keeps its power
module _ (change : Failures → Failures) (same : (failures : Failures) → (change failures).powered ≡ failures.powered) where
  pub still_tells : (x : Option Failures) → IsSomeAnd x (λ f. Unit {0}) → IsSomeAnd (option_map change x) (λ f. Unit {0})
  still_tells None h = absurd h
  still_tells (Some a) h = tt

  pub still_powered : (x : Option Failures) → IsSomeAnd x (λ f. f.powered ≡ true) → IsSomeAnd (option_map change x) (λ f. f.powered ≡ true)
  still_powered None h = absurd h
  still_powered (Some a) h = same a ∙ h

-- giving the power back moves no armed failure
pub cut_powered : (x : Option Failures) → cut_in (option_map with_power x) ≡ cut_in x
cut_powered None = refl
cut_powered (Some a) = refl

pub form_powered : (x : Option Failures) → form_in (option_map with_power x) ≡ form_in x
form_powered None = refl
form_powered (Some a) = refl

pub read_powered : (x : Option Failures) → read_in (option_map with_power x) ≡ read_in x
read_powered None = refl
read_powered (Some a) = refl

pub lowers_powered : {changes reads : ℕ} {Bounded : Type 0} (die new : DieState) → Lowers changes reads Bounded (told with_power die) new → Lowers changes reads Bounded die new
lowers_powered {changes} {reads} {Bounded} die new lowers =
    let cut : cut_of (told with_power die) ≡ cut_of die = cut_powered die.failures in
    let form : form_of (told with_power die) ≡ form_of die = form_powered die.failures in
    let read : read_failure_of (told with_power die) ≡ read_failure_of die = read_powered die.failures in
    record {
      cut = rw cut at lowers.cut;
      form = λ h. lowers.form h ∙ form;
      read = λ not. rw read at (lowers.read not);
      read_bound = rw read at lowers.read_bound;
    }

pub power_given : (die : DieState) → Tells die → TellsPower (told with_power die)
power_given die tells = given die.failures tells
  where
    given : (x : Option Failures) → IsSomeAnd x (λ f. Unit {0}) → IsSomeAnd (option_map with_power x) (λ f. f.powered ≡ true)
    given None tells = absurd tells
    given (Some a) tells = refl
