-- Lines that change nothing: refusals, and `stat`.
use Rattle.std.proofs.Common.{◌≡◌, ◌≢◌, ℕ, ◌^◌, ◌≤◌, ◌<◌, List, [], false, length, refl, arith, sym, ap, ◌∙◌}
use Rattle.rssd_script.specs.declared.lines.Line.{Line}
use Rattle.rssd_script.specs.declared.lines.Line.TheVariants.{Write, Read, Trim, Idle, Cut, FailRead, Mount, Stat}
use Rattle.rssd_script.specs.declared.replies.Reply.{Reply}
use Rattle.rssd_script.specs.declared.replies.Reply.TheVariants.{Range, Long, Spent, Off as SaysOff, Fault, NoSpare, Stat as Counts}
use Rattle.rssd_core.specs.SectorArray.{filled_up}
use Rattle.rssd_core.specs.DeviceValue.{Numbers, DeviceView, DeviceValue}
use Rattle.rssd_core.specs.Failures.{Tells, TellsPower}
use Rattle.rssd_run.specs.ArrayWithCuts.{ArrayState, On, Off, Row}
use Rattle.rssd_run.specs.View.{View, Event, StandsFor, NoFailure, IsOn, IsOff, erased}
use Rattle.rssd_run.specs.Held.{Tallies, on, off}
use Rattle.rssd_run.specs.Armed.{Arms, change_calls, read_calls}
use Rattle.rssd_run.specs.Leaves.{Leaves}
use Rattle.rssd_run.specs.Moves.{BookMoves, ByRules, MayChange, RisesBy}
use Rattle.rssd_run.specs.Placing.{IsTried, PlacedExactly}
use Rattle.rssd_run.specs.Step.{IsRefusal}
use Rattle.rssd_run.specs.Step.{IsStep, RefusedExactly, OutOfRange, TooLong, NumbersSpent, AlwaysAnswered, firsts, seconds, declines, IdleAnswer, StatAnswer, TrueWhileOn}
use Rattle.rssd_run.specs.Steps.{IsKept, Steps}
use Rattle.rssd_run.specs.Shows.{stat_of}
use Rattle.rssd_run.proofs.Came.{none_came}
use Rattle.rssd_run.proofs.Parts.{no_fault, keeps_same, keeps_none, not_both}
use Rattle.rssd_run.proofs.Still.{same_book, same_seq, lowers_none}
use Rattle.rssd_run.proofs.MountSteps.{never_refused}
use Rattle.rssd_run.proofs.Parts.{event_of, sector_in, bytes_in}
use Rattle.rssd_run.proofs.Stepped.{runs_on}

-- what must hold of a line and a reply that leave a view as it is
pub record Stays (d : Numbers) (v : View) (line : Line) (reply : Reply) : Type 0 where
  pub row : Row d.geometry.sector_bytes v.array line reply v.array
  pub refused : RefusedExactly d (event_of line reply v v)
  pub no_fault : reply ≢ Fault
  pub no_spare : reply ≢ NoSpare
  pub no_mount : line ≢ Mount
  pub tallies : (firsts reply ≡ 0) × (seconds reply ≡ 0) × (declines reply ≡ 0)
  pub idle : IdleAnswer (event_of line reply v v) line reply
  pub stat : StatAnswer (event_of line reply v v) reply
  pub moves : BookMoves d (event_of line reply v v) line reply
  pub arms : Arms (event_of line reply v v) line reply
  pub leaves : Leaves d (event_of line reply v v) line reply
  pub calls : (change_calls d v.device line reply ≡ 0) × (read_calls d v.device line reply ≡ 0)
  pub placed : (sector : ℕ) (bytes : List ℕ) → IsTried d (event_of line reply v v) sector bytes → PlacedExactly d (event_of line reply v v) sector (filled_up d.geometry.sector_bytes bytes)

-- while the session is on its die, if it tells, has power
abbrev pub PoweredWhileOn : View → Type 0
PoweredWhileOn v = IsOn v.array → Tells v.device.die → TellsPower v.device.die

pub stays_step : (d : Numbers) (v : View) (line : Line) (reply : Reply) → StandsFor d v → TrueWhileOn d v → PoweredWhileOn v
    → v.device.first < 2 ^ 64 → v.device.second < 2 ^ 64 → v.device.declined < 2 ^ 64 → Stays d v line reply → IsStep d (event_of line reply v v)
stays_step d v line reply stands book power small_first small_second small_declined s =
    let e : Event = event_of line reply v v in
    let none : NoFailure e = none_came v.device.die v.device.die (lowers_none {Bounded = ⊥} v.device.die) in
    record {
      row = s.row;
      stands_before = stands;
      stands_after = stands;
      off = λ h. absurd (s.no_fault h);
      keeps = keeps_same d v.device;
      placed = s.placed;
      fault = no_fault e s.no_fault none;
      answers = record {
        refused = s.refused;
        idle = s.idle;
        no_spare = record { only = λ h. absurd (s.no_spare h); always = λ h. absurd (s.no_mount h) };
        stays = λ h. record { cells = refl; erases = refl };
        stat = s.stat;
        tallies = record { first = omega (arith, s.tallies.0, small_first); second = omega (arith, s.tallies.1, small_second); declined = omega (arith, s.tallies.2, small_declined) };
      };
      true_book = book;
      moves = s.moves;
      armed = record { arms = s.arms; lowers = λ a f. rw s.calls.0 (rw s.calls.1 (lowers_none v.device.die)); fault = λ h. absurd (s.no_fault h) };
      power = power;
      leaves = s.leaves;
    }

-- nothing moves
still_moves : (d : Numbers) (v : View) (line : Line) (reply : Reply) → v.device.moved < 2 ^ 64 → MayChange v.array line reply [] → RisesBy (event_of line reply v v) line reply [] 0
    → ByRules d (event_of line reply v v)
still_moves d v line reply small may rises = record {
  book = same_book d v.device v.device refl refl small (λ c. absurd (omega (arith, c.0, c.1))) may rises;
  seq = same_seq d v.device v.device refl refl;
}

-- ---- the places of the four refusals

is_off : (d : Numbers) (e : Event) → IsOff e.before.array → (AlwaysAnswered e.line → ⊥) → e.reply ≡ SaysOff → RefusedExactly d e
is_off d e here never reply = record {
  off = (λ h. (here, never), λ h. reply);
  range = (λ h. let other : Range ≡ SaysOff = sym h ∙ reply in cc, λ h. absurd (not_both e.before.array h.0 here));
  long = (λ h. let other : Long ≡ SaysOff = sym h ∙ reply in cc, λ h. absurd (not_both e.before.array h.0 here));
  spent = (λ h. let other : Spent ≡ SaysOff = sym h ∙ reply in cc, λ h. absurd (not_both e.before.array h.0 here));
}

is_range : (d : Numbers) (e : Event) → IsOn e.before.array → OutOfRange d e.line → e.reply ≡ Range → RefusedExactly d e
is_range d e here far reply = record {
  off = (λ h. let other : SaysOff ≡ Range = sym h ∙ reply in cc, λ h. absurd (not_both e.before.array here h.0));
  range = (λ h. (here, far), λ h. reply);
  long = (λ h. let other : Long ≡ Range = sym h ∙ reply in cc, λ h. absurd (h.1 far));
  spent = (λ h. let other : Spent ≡ Range = sym h ∙ reply in cc, λ h. absurd (h.1 far));
}

is_long : (d : Numbers) (e : Event) → IsOn e.before.array → (OutOfRange d e.line → ⊥) → TooLong d e.line → e.reply ≡ Long → RefusedExactly d e
is_long d e here near many reply = record {
  off = (λ h. let other : SaysOff ≡ Long = sym h ∙ reply in cc, λ h. absurd (not_both e.before.array here h.0));
  range = (λ h. let other : Range ≡ Long = sym h ∙ reply in cc, λ h. absurd (near h.1));
  long = (λ h. (here, near, many), λ h. reply);
  spent = (λ h. let other : Spent ≡ Long = sym h ∙ reply in cc, λ h. absurd (h.2 many));
}

is_spent : (d : Numbers) (e : Event) → IsOn e.before.array → (OutOfRange d e.line → ⊥) → (TooLong d e.line → ⊥) → NumbersSpent e.before e.line → e.reply ≡ Spent → RefusedExactly d e
is_spent d e here near few spent reply = record {
  off = (λ h. let other : SaysOff ≡ Spent = sym h ∙ reply in cc, λ h. absurd (not_both e.before.array here h.0));
  range = (λ h. let other : Range ≡ Spent = sym h ∙ reply in cc, λ h. absurd (near h.1));
  long = (λ h. let other : Long ≡ Spent = sym h ∙ reply in cc, λ h. absurd (few h.2));
  spent = (λ h. (here, near, few, spent), λ h. reply);
}

-- ---- on a device that runs

-- a line that leaves each view as it is
pub still_steps : (d : Numbers) (old : DeviceValue) → IsKept d old → old.stopped ≡ false → (line : Line) (reply : Reply) → ((base : Tallies) → Stays d (on d base old) line reply)
    → Steps d line reply old old
still_steps d old kept running line reply stays =
    runs_on d line reply old old kept (keeps_none d old.view.die) running
    (λ calm base. stays_step d (on d base old) line reply refl (λ o. kept.book running) (λ o tells. kept.power running) (omega arith) (omega arith) (omega arith) (stays base))

-- a reply that refuses is no fault, counts nothing and tells nothing
record IsMute (e : Event) (reply : Reply) : Type 0 where
  no_fault : reply ≢ Fault
  no_spare : reply ≢ NoSpare
  tallies : (firsts reply ≡ 0) × (seconds reply ≡ 0) × (declines reply ≡ 0)
  stat : StatAnswer e reply

mute : (e : Event) (reply : Reply) → IsRefusal reply → IsMute e reply
mute e SaysOff is = record { no_fault = λ h. cc; no_spare = λ h. cc; tallies = (refl, refl, refl); stat = tt }
mute e Range is = record { no_fault = λ h. cc; no_spare = λ h. cc; tallies = (refl, refl, refl); stat = tt }
mute e Long is = record { no_fault = λ h. cc; no_spare = λ h. cc; tallies = (refl, refl, refl); stat = tt }
mute e Spent is = record { no_fault = λ h. cc; no_spare = λ h. cc; tallies = (refl, refl, refl); stat = tt }
mute e reply is = absurd is

-- what else must hold of a line that is refused
record RefusedStays (d : Numbers) (v : View) (line : Line) (reply : Reply) : Type 0 where
  no_mount : line ≢ Mount
  idle : IdleAnswer (event_of line reply v v) line reply
  moves : BookMoves d (event_of line reply v v) line reply
  arms : Arms (event_of line reply v v) line reply
  leaves : Leaves d (event_of line reply v v) line reply
  calls : (change_calls d v.device line reply ≡ 0) × (read_calls d v.device line reply ≡ 0)

refused_stays : (d : Numbers) (v : View) (line : Line) (reply : Reply) → IsRefusal reply → RefusedStays d v line reply → Row d.geometry.sector_bytes v.array line reply v.array
    → RefusedExactly d (event_of line reply v v)
    → ((sector : ℕ) (bytes : List ℕ) → IsTried d (event_of line reply v v) sector bytes → PlacedExactly d (event_of line reply v v) sector (filled_up d.geometry.sector_bytes bytes))
    → Stays d v line reply
refused_stays d v line reply is rest row exactly placed =
    let says : IsMute (event_of line reply v v) reply = mute (event_of line reply v v) reply is in
    record {
      row = row;
      refused = exactly;
      placed = placed;
      no_fault = says.no_fault;
      no_spare = says.no_spare;
      tallies = says.tallies;
      stat = says.stat;
      no_mount = rest.no_mount;
      idle = rest.idle;
      moves = rest.moves;
      arms = rest.arms;
      leaves = rest.leaves;
      calls = rest.calls;
    }

module _ (d : Numbers) (old : DeviceValue) (base : Tallies) where
  pub write_range : (sector : ℕ) (bytes : List ℕ) → d.geometry.sectors ≤ sector → Stays d (on d base old) (Write sector bytes) Range
  write_range sector bytes far =
      refused_stays d (on d base old) (Write sector bytes) Range tt
      (record { no_mount = λ h. cc; idle = tt; moves = (still_moves d (on d base old) (Write sector bytes) Range (omega arith) refl refl, tt); arms = tt; leaves = refl; calls = (refl, refl) })
      refl (is_range d (event_of (Write sector bytes) Range (on d base old) (on d base old)) tt far refl)
      (λ s b t. absurd (omega (arith, far, t.in_range, ap sector_in t.write)))

  pub write_long : (sector : ℕ) (bytes : List ℕ) → sector < d.geometry.sectors → d.geometry.sector_bytes < length bytes → Stays d (on d base old) (Write sector bytes) Long
  write_long sector bytes near many =
      refused_stays d (on d base old) (Write sector bytes) Long tt
      (record { no_mount = λ h. cc; idle = tt; moves = (still_moves d (on d base old) (Write sector bytes) Long (omega arith) refl refl, tt); arms = tt; leaves = refl; calls = (refl, refl) })
      refl (is_long d (event_of (Write sector bytes) Long (on d base old) (on d base old)) tt (λ far. omega (arith, near, far)) many refl)
      (λ s b t. absurd (omega (arith, many, t.fits, ap length (ap bytes_in t.write))))

  pub write_spent : (sector : ℕ) (bytes : List ℕ) → sector < d.geometry.sectors → length bytes ≤ d.geometry.sector_bytes → 2 ^ 62 ≤ old.view.seq → Stays d (on d base old) (Write sector bytes) Spent
  write_spent sector bytes near fits spent =
      refused_stays d (on d base old) (Write sector bytes) Spent tt
      (record { no_mount = λ h. cc; idle = tt; moves = (still_moves d (on d base old) (Write sector bytes) Spent (omega arith) refl refl, tt); arms = tt; leaves = refl; calls = (refl, refl) })
      refl (is_spent d (event_of (Write sector bytes) Spent (on d base old) (on d base old)) tt (λ far. omega (arith, near, far)) (λ many. omega (arith, fits, many)) spent refl)
      (λ s b t. absurd (omega (arith, t.numbers, spent)))

  pub read_range : (sector : ℕ) → d.geometry.sectors ≤ sector → Stays d (on d base old) (Read sector) Range
  read_range sector far =
      refused_stays d (on d base old) (Read sector) Range tt
      (record { no_mount = λ h. cc; idle = tt; moves = (still_moves d (on d base old) (Read sector) Range (omega arith) refl refl, tt); arms = tt; leaves = refl; calls = (refl, refl) })
      refl (is_range d (event_of (Read sector) Range (on d base old) (on d base old)) tt far refl)
      (λ s b t. absurd (let l = t.write in cc))

  pub trim_range : (sector : ℕ) → d.geometry.sectors ≤ sector → Stays d (on d base old) (Trim sector) Range
  trim_range sector far =
      refused_stays d (on d base old) (Trim sector) Range tt
      (record { no_mount = λ h. cc; idle = tt; moves = (still_moves d (on d base old) (Trim sector) Range (omega arith) refl refl, tt); arms = tt; leaves = refl; calls = (refl, refl) })
      refl (is_range d (event_of (Trim sector) Range (on d base old) (on d base old)) tt far refl)
      (λ s b t. absurd (let l = t.write in cc))

  pub trim_spent : (sector : ℕ) → sector < d.geometry.sectors → 2 ^ 62 ≤ old.view.seq → Stays d (on d base old) (Trim sector) Spent
  trim_spent sector near spent =
      refused_stays d (on d base old) (Trim sector) Spent tt
      (record { no_mount = λ h. cc; idle = tt; moves = (still_moves d (on d base old) (Trim sector) Spent (omega arith) refl refl, tt); arms = tt; leaves = refl; calls = (refl, refl) })
      refl (is_spent d (event_of (Trim sector) Spent (on d base old) (on d base old)) tt (λ far. omega (arith, near, far)) (λ many. many) spent refl)
      (λ s b t. absurd (let l = t.write in cc))

-- ---- while the session is off, and `stat`

-- a view whose tallies are numbers of 64 bits
pub record IsSmall (view : DeviceView) : Type 0 where
  pub first : view.first < 2 ^ 64
  pub second : view.second < 2 ^ 64
  pub declined : view.declined < 2 ^ 64
  pub moved : view.moved < 2 ^ 64

not_on : (array : ArrayState) → IsOff array → IsOn array → ⊥
not_on array off on = not_both array on off

off_row : (size : ℕ) (array : ArrayState) (line : Line) → IsOff array → (AlwaysAnswered line → ⊥) → Row size array line SaysOff array
off_row size (On rows) line here never = absurd here
off_row size (Off a b) (Write sector bytes) here never = refl
off_row size (Off a b) (Read sector) here never = refl
off_row size (Off a b) (Trim sector) here never = refl
off_row size (Off a b) (Idle n) here never = refl
off_row size (Off a b) (Cut n torn) here never = refl
off_row size (Off a b) (FailRead n) here never = refl
off_row size (Off a b) Mount here never = absurd (never tt)
off_row size (Off a b) Stat here never = absurd (never tt)

off_stays : (d : Numbers) (v : View) (line : Line) → v.device.moved < 2 ^ 64 → (AlwaysAnswered line → ⊥) → RefusedStays d v line SaysOff
off_stays d v (Write sector bytes) small never =
    record { no_mount = λ h. cc; idle = tt; moves = (still_moves d v (Write sector bytes) SaysOff small refl refl, tt); arms = tt; leaves = refl; calls = (refl, refl) }
off_stays d v (Read sector) small never = record { no_mount = λ h. cc; idle = tt; moves = (still_moves d v (Read sector) SaysOff small refl refl, tt); arms = tt; leaves = refl; calls = (refl, refl) }
off_stays d v (Trim sector) small never = record { no_mount = λ h. cc; idle = tt; moves = (still_moves d v (Trim sector) SaysOff small refl refl, tt); arms = tt; leaves = refl; calls = (refl, refl) }
off_stays d v (Idle n) small never = record { no_mount = λ h. cc; idle = tt; moves = (still_moves d v (Idle n) SaysOff small refl refl, tt); arms = tt; leaves = refl; calls = (refl, refl) }
off_stays d v (Cut n torn) small never = record { no_mount = λ h. cc; idle = tt; moves = (still_moves d v (Cut n torn) SaysOff small refl refl, tt); arms = tt; leaves = refl; calls = (refl, refl) }
off_stays d v (FailRead n) small never = record { no_mount = λ h. cc; idle = tt; moves = (still_moves d v (FailRead n) SaysOff small refl refl, tt); arms = tt; leaves = refl; calls = (refl, refl) }
off_stays d v Mount small never = absurd (never tt)
off_stays d v Stat small never = absurd (never tt)

pub off_step : (d : Numbers) (v : View) (line : Line) → StandsFor d v → IsOff v.array → IsSmall v.device → (AlwaysAnswered line → ⊥) → IsStep d (event_of line SaysOff v v)
off_step d v line stands here small never =
    stays_step d v line SaysOff stands (λ on. absurd (not_on v.array here on)) (λ on. absurd (not_on v.array here on)) small.first small.second small.declined
    (refused_stays d v line SaysOff tt (off_stays d v line small.moved never) (off_row d.geometry.sector_bytes v.array line here never) (is_off d (event_of line SaysOff v v) here never refl)
    (λ s b t. absurd (not_on v.array here t.on)))

stat_row : (size : ℕ) (array : ArrayState) (first second declined moved erases : ℕ) → Row size array Stat (Counts first second declined moved erases) array
stat_row size (On rows) first second declined moved erases = refl
stat_row size (Off a b) first second declined moved erases = refl

pub stat_step : (d : Numbers) (v : View) → StandsFor d v → TrueWhileOn d v → PoweredWhileOn v → IsSmall v.device → IsStep d (event_of Stat (stat_of v) v v)
stat_step d v stands book power small =
    stays_step d v Stat (stat_of v) stands book power small.first small.second small.declined (record {
      row = stat_row d.geometry.sector_bytes v.array v.device.first v.device.second v.device.declined v.device.moved (erased v);
      refused = never_refused d (event_of Stat (stat_of v) v v) tt (λ h. h) (λ h. h) (λ h. h) (λ h. cc) (λ h. cc) (λ h. cc) (λ h. cc);
      no_fault = λ h. cc;
      no_spare = λ h. cc;
      no_mount = λ h. cc;
      tallies = (refl, refl, refl);
      idle = tt;
      stat = (refl, refl, refl, refl, refl);
      moves = (still_moves d v Stat (stat_of v) small.moved refl refl, tt);
      arms = tt;
      leaves = refl;
      calls = (refl, refl);
      placed = λ s b t. absurd (let l = t.write in cc);
    })
