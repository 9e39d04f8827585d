-- Steps of a device are steps of the session that has it.
use Rattle.std.proofs.Common.{◌≡◌, ℕ, Bool, true, false, List, Option, None, Some, refl, arith, sym, ap, subst}
use Rattle.std.proofs.lemmas.Option.{none-some}
use Rattle.cell_die.specs.DieState.{DieState}
use Rattle.rssd_script.specs.declared.lines.Line.{Line}
use Rattle.rssd_script.specs.declared.lines.Line.TheVariants.{Mount, Stat}
use Rattle.rssd_script.specs.declared.replies.Reply.{Reply}
use Rattle.rssd_script.specs.declared.replies.Reply.TheVariants.{Done, Off as SaysOff}
use Rattle.striped.specs.Meaning.{Meaning}
use Rattle.rssd_core.specs.declared.device.Plan.{Plan}
use Rattle.rssd_core.specs.DeviceValue.{Numbers, DeviceView, DeviceValue, rows_of}
use Rattle.rssd_core.specs.declared.device.MountError.{MountError}
use Rattle.rssd_run.specs.ArrayWithCuts.{ArrayState, On, Off}
use Rattle.rssd_run.specs.View.{View, IsArrayOf, IsOn, IsOff, StandsFor}
use Rattle.rssd_run.specs.Held.{Tallies, plus, tallies_of, on, off, refused, after_refusal}
use Rattle.rssd_run.specs.Step.{AlwaysAnswered, TrueWhileOn, KeepsDie}
use Rattle.rssd_run.specs.Steps.{ArrayIs, IsKept, Steps, MountDone, MountRefused, refusal_reply}
use Rattle.rssd_run.specs.Shows.{Holding, Mounted, Closed, Nothing, HasNumbers, HasDie, KeepsSession, AreSmall, SessionValue, Shows, ShowsHolding, StepsSession, IsHeld, SaysStat, holding_of}
use Rattle.rssd_run.proofs.Parts.{keeps_none}
use Rattle.rssd_run.proofs.Refused.{IsSmall, PoweredWhileOn, off_step, stat_step}

array_stands : (stopped : Bool) (rows : List (List ℕ)) (array : ArrayState) → ArrayIs stopped rows array → IsArrayOf rows array
array_stands false rows array is = rw is refl
array_stands true rows array is = is.1

pub runs_array : (stopped : Bool) → stopped ≡ false → (rows : List (List ℕ)) (array : ArrayState) → ArrayIs stopped rows array → array ≡ On rows
runs_array false e rows array is = is
runs_array true e rows array is = cc

pub stops_array : (stopped : Bool) → stopped ≡ true → (rows : List (List ℕ)) (array : ArrayState) → ArrayIs stopped rows array → IsOff array
stops_array false e rows array is = cc
stops_array true e rows array is = is.0

pub shows_stands : (d : Numbers) (base : Tallies) (holding : Holding) (view : View) → ShowsHolding d base holding view → StandsFor d view
shows_stands d base (Mounted device) view shows = rw shows.0 (array_stands device.stopped (rows_of d device.view) view.array shows.1)
shows_stands d base (Closed numbers die) view shows = shows.3
shows_stands d base Nothing view shows = absurd shows

small_view : (view : DeviceView) (base : Tallies) → tallies_of view ≡ base → AreSmall base → IsSmall view
small_view view base is small = record {
  first = omega (arith, ap (λ t. t.first) is, small.first);
  second = omega (arith, ap (λ t. t.second) is, small.second);
  declined = omega (arith, ap (λ t. t.declined) is, small.declined);
  moved = omega (arith, ap (λ t. t.moved) is, small.moved);
}

pub small_plus : (base : Tallies) (view : DeviceView) → IsSmall (plus base view)
small_plus base view = record { first = omega arith; second = omega arith; declined = omega arith; moved = omega arith }

shows_small : (d : Numbers) (base : Tallies) (holding : Holding) (view : View) → AreSmall base → ShowsHolding d base holding view → IsSmall view.device
shows_small d base (Mounted device) view small shows = rw shows.0 (small_plus base device.view)
shows_small d base (Closed numbers die) view small shows = small_view view.device base shows.1 small
shows_small d base Nothing view small shows = absurd shows

-- ---- lines on the device that the session has

-- the session where it has another device
abbrev with_device : SessionValue → DeviceValue → SessionValue
with_device session device = record { base = session.base; holding = Mounted device }

-- a line on a device that runs
pub running_steps : (d : Numbers) (session : SessionValue) (line : Line) (reply : Reply) (old new : DeviceValue) → session.holding ≡ Mounted old → old.stopped ≡ false → HasNumbers d session.holding
    → Steps old.numbers line reply old new → StepsSession d line reply session (with_device session new)
running_steps d session line reply old new is running numbers steps =
    let same : old.numbers ≡ d = subst (HasNumbers d) is numbers in
    let has : with_device session old ≡ session = λ i. record { base = session.base; holding = sym is i } in
    subst (λ (s : SessionValue). StepsSession d line reply s (with_device session new)) has (device_steps (subst (λ (n : Numbers). Steps n line reply old new) same steps))
  where
    device_steps : Steps d line reply old new → StepsSession d line reply (with_device session old) (with_device session new)
    device_steps steps = record {
      keeps = λ die has. (new.view.die, refl, subst (λ (x : DieState). KeepsDie d x new.view.die) has steps.keeps);
      step = λ before shows calm.
          let array : before.array ≡ On (rows_of d old.view) = runs_array old.stopped running (rows_of d old.view) before.array shows.1 in
          let same : before ≡ on d session.base old = λ i. record { device = shows.0 i; array = array i } in
          let s = steps.step (rw same at calm) session.base in
          (off session.base new s.0, (refl, s.1), rw same s.2);
    }

-- a session that stays keeps its die
stays : (d : Numbers) (session : SessionValue) → KeepsSession d session session
stays d session die has = (die, has, keeps_none d die)

-- ---- lines while the session is off

-- each view of the session is off
pub record IsDown (d : Numbers) (session : SessionValue) : Type 0 where
  pub down : (view : View) → Shows d session view → IsOff view.array

pub stopped_down : (d : Numbers) (session : SessionValue) (device : DeviceValue) → session.holding ≡ Mounted device → device.stopped ≡ true → IsDown d session
stopped_down d session device is stopped = record {
  down = λ view shows.
      let here : ShowsHolding d session.base (Mounted device) view = subst (λ (h : Holding). ShowsHolding d session.base h view) is shows in
      stops_array device.stopped stopped (rows_of d device.view) view.array here.1;
}

-- without a device there is a die alone
pub closed_down : (d : Numbers) (base : Tallies) (plan : Plan) (mounted : Option DeviceValue) (closed : Option (DieState × Meaning)) → mounted ≡ None
    → IsDown d (record { base = base; holding = holding_of plan mounted closed })
closed_down d base plan (Some device) closed none = absurd (none-some device (sym none))
closed_down d base plan None (Some held) none = record { down = λ view shows. shows.2 }
closed_down d base plan None None none = record { down = λ view shows. absurd shows }

pub off_steps : (d : Numbers) (session : SessionValue) (line : Line) → IsDown d session → AreSmall session.base → (AlwaysAnswered line → ⊥) → StepsSession d line SaysOff session session
off_steps d session line is small never = record {
  keeps = stays d session;
  step =
      λ before shows calm. (
        before,
        shows,
        off_step d before line (shows_stands d session.base session.holding before shows) (is.down before shows)
            (shows_small d session.base session.holding before small shows) never,
      );
}

-- ---- `stat`

not_on : (array : ArrayState) → IsOn array → IsOff array → ⊥
not_on (On rows) on off = off
not_on (Off a b) on off = on

-- the device of a view that is on runs
runs_on : (device : DeviceValue) (rows : List (List ℕ)) (array : ArrayState) (stopped : Bool) → device.stopped ≡ stopped → ArrayIs stopped rows array → IsOn array → device.stopped ≡ false
runs_on device rows array false e is here = e
runs_on device rows array true e is here = absurd (not_on array here is.0)

-- while a view is on, the book is true
true_on : (d : Numbers) (plan : Plan) (base : Tallies) (holding : Holding) (view : View) → IsHeld plan holding → HasNumbers d holding → ShowsHolding d base holding view → TrueWhileOn d view
true_on d plan base (Mounted device) view held numbers shows =
    λ here. rw shows.0 ((subst (λ (n : Numbers). IsKept n device) numbers held.1).book (runs_on device (rows_of d device.view) view.array device.stopped refl shows.1 here))
true_on d plan base (Closed numbers' die) view held numbers shows = λ here. absurd (not_on view.array here shows.2)
true_on d plan base Nothing view held numbers shows = absurd shows

-- and its die has power
power_on : (d : Numbers) (plan : Plan) (base : Tallies) (holding : Holding) (view : View) → IsHeld plan holding → HasNumbers d holding → ShowsHolding d base holding view → PoweredWhileOn view
power_on d plan base (Mounted device) view held numbers shows =
    λ here tells. rw shows.0 ((subst (λ (n : Numbers). IsKept n device) numbers held.1).power (runs_on device (rows_of d device.view) view.array device.stopped refl shows.1 here))
power_on d plan base (Closed numbers' die) view held numbers shows = λ here. absurd (not_on view.array here shows.2)
power_on d plan base Nothing view held numbers shows = absurd shows

pub stat_steps : (d : Numbers) (plan : Plan) (session : SessionValue) (reply : Reply) → IsHeld plan session.holding → AreSmall session.base → HasNumbers d session.holding → SaysStat d session reply
    → StepsSession d Stat reply session session
stat_steps d plan session reply held small numbers says = record {
  keeps = stays d session;
  step = λ before shows calm. (
    before,
    shows,
    rw (says before shows)
        (stat_step d before (shows_stands d session.base session.holding before shows) (true_on d plan session.base session.holding before held numbers shows)
        (power_on d plan session.base session.holding before held numbers shows) (shows_small d session.base session.holding before small shows)),
  );
}

-- ---- mounts

-- the session was closed: its die, and its tallies with those of its device
pub record IsClosed (d : Numbers) (session : SessionValue) (die : DieState) (base : Tallies) : Type 0 where
  pub die_is : (view : View) → Shows d session view → view.device.die ≡ die
  pub tallies_are : (view : View) → Shows d session view → tallies_of view.device ≡ base
  pub holds : (other : DieState) → HasDie other session.holding → other ≡ die

pub mounted_steps : (d : Numbers) (session : SessionValue) (die : DieState) (base : Tallies) (new : DeviceValue) → AreSmall session.base → IsClosed d session die base → MountDone d die new
    → StepsSession d Mount Done session (record { base = base; holding = Mounted new })
mounted_steps d session die base new small closed done = record {
  keeps = λ other has. (new.view.die, refl, subst (λ (x : DieState). KeepsDie d x new.view.die) (sym (closed.holds other has)) done.keeps);
  step = λ before shows calm.
      let small_before : IsSmall before.device = shows_small d session.base session.holding before small shows in
      let base_is : plus (tallies_of before.device) new.view ≡ plus base new.view = ap (λ tallies. plus tallies new.view) (closed.tallies_are before shows) in (
        on d (tallies_of before.device) new,
        (base_is, runs new.stopped done.running (rows_of d new.view)),
        done.step before (closed.die_is before shows) (shows_stands d session.base session.holding before shows) small_before.moved,
      );
}
  where
    runs : (stopped : Bool) → stopped ≡ false → (rows : List (List ℕ)) → ArrayIs stopped rows (On rows)
    runs false e rows = refl
    runs true e rows = cc

refusal_is_off : (array : ArrayState) → IsOff (after_refusal array)
refusal_is_off (On rows) = tt
refusal_is_off (Off a b) = tt

pub refused_steps : (d numbers : Numbers) (session : SessionValue) (die new : DieState) (base : Tallies) (why : MountError) → AreSmall session.base → IsClosed d session die base
    → MountRefused d die new why → StepsSession d Mount (refusal_reply why) session (record { base = base; holding = Closed numbers new })
refused_steps d numbers session die new base why small closed r = record {
  keeps = λ other has. (new, refl, subst (λ (x : DieState). KeepsDie d x new) (sym (closed.holds other has)) r.keeps);
  step = λ before shows calm.
      let s : IsSmall before.device = shows_small d session.base session.holding before small shows in
      let step = r.step before (closed.die_is before shows) (shows_stands d session.base session.holding before shows) s.first s.second s.declined s.moved in
      (refused before new, (refl, closed.tallies_are before shows, refusal_is_off before.array, step.stands_after), step);
}
