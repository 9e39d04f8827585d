-- What a line on a device left, by its reply, is a step of a session with power, and a played step on any die.
use Rattle.std.proofs.Common.{◌≡◌, inl, inr, ℕ, ◌^◌, ◌<◌, List, true, false, refl, arith, sym, ap, ◌∙◌, subst}
use Rattle.cell_die.specs.Calls.{IsQuiet, PassedWithin}
use Rattle.cell_die.proofs.Quiet.{quiet_stays, quiet_stays_within, quiet_change, quiet_read}
use Rattle.page_codec.specs.Sound.{IsSound}
use Rattle.rssd_run.specs.Step.{AlwaysAnswered, TrueWhileOn, KeepsDie}
use Rattle.rssd_run.specs.View.{View, Event, StandsFor, NoFailure}
use Rattle.rssd_run.specs.Placing.{PlacedExactly}
use Rattle.rssd_core.specs.Failures.{Tells}
use Rattle.rssd_run.proofs.Came.{none_came, went_tells, read_failed_tells, change_failed_tells, passed_went}
use Rattle.rssd_run.proofs.Parts.{bounded}
use Rattle.rssd_run.proofs.Parts.{keeps_same, keeps_none}
use Rattle.rssd_run.proofs.Still.{lowers_none}
use Rattle.rssd_script.specs.declared.lines.Line.{Line}
use Rattle.rssd_script.specs.declared.lines.Line.TheVariants.{Write, Read, Trim, Idle}
use Rattle.rssd_script.specs.declared.replies.Reply.{Reply}
use Rattle.rssd_script.specs.declared.replies.Reply.TheVariants.{First, Second, Declined, Bytes, Done, Moves, Range, Long, Fault, Spent, Off as SaysOff}
use Rattle.rssd_core.specs.declared.device.Placed.{Placed}
use Rattle.rssd_core.specs.declared.device.Placed.TheVariants.{First as PutFirst, Second as PutSecond, Declined as PutDeclined}
use Rattle.rssd_core.specs.SectorArray.{filled_up, written, trimmed}
use Rattle.rssd_core.specs.DeviceValue.{Numbers, DeviceValue, rows_of}
use Rattle.rssd_core.specs.Outcomes.{Holds, Faulted, ReadFault, ChangeFault, TrueWhileRunning}
use Rattle.rssd_core.specs.Within.{WithinWrite, WithinTrim, WithinIdle}
use Rattle.rssd_run.specs.ArrayWithCuts.{ArrayState, On, Off}
use Rattle.rssd_run.specs.Held.{Tallies, on, off, reply_of}
use Rattle.rssd_run.specs.Steps.{IsKept, Steps, ArrayIs}
use Rattle.rssd_run.specs.Shows.{Mounted}
use Rattle.rssd_run.specs.Played.{IsPlayed, WroteSo, AnsweredWrite, AnsweredRead, AnsweredTrim, AnsweredIdle, Answered, IsPlayedStep, Plays, PlaysQuiet}
use Rattle.rssd_run.proofs.Parts.{event_of}
use Rattle.rssd_run.proofs.Stepped.{array_runs, array_stops, wrote_steps, write_fault_steps, trimmed_steps, trim_fault_steps, idled_steps, idle_fault_steps, read_steps, read_fault_steps}
use Rattle.rssd_run.proofs.Refused.{Stays, still_steps, off_step, write_range, write_long, write_spent, read_range, trim_range, trim_spent}
use Rattle.rssd_run.proofs.Sessions.{runs_array, stops_array, shows_stands, small_plus}
use Rattle.rssd_run.proofs.PlayedSteps.{step_played, played_book, played_wrote, played_write_read_fault, played_write_change_fault, played_trim}
use Rattle.rssd_run.proofs.PlayedSteps.{played_trim_read_fault, played_trim_change_fault, played_idle, played_idle_read_fault, played_idle_change_fault, played_read, played_read_fault}

-- a write that was placed
pub answered_wrote : (d : Numbers) (sector : ℕ) (bytes : List ℕ) (placed : Placed) (old new : DeviceValue) → WroteSo d sector bytes placed old new
    → AnsweredWrite d sector bytes (reply_of placed) old new
answered_wrote d sector bytes PutFirst old new a = a
answered_wrote d sector bytes PutSecond old new a = a
answered_wrote d sector bytes PutDeclined old new a = a

-- ---- as steps of a session

module _ (d : Numbers) (old new : DeviceValue) (kept : IsKept d old) (running : old.stopped ≡ false) where
  same_steps : (line : Line) (reply : Reply) → new ≡ old → ((base : Tallies) → Stays d (on d base old) line reply) → Steps d line reply old new
  same_steps line reply same stays = subst (λ (device : DeviceValue). Steps d line reply old device) (sym same) (still_steps d old kept running line reply stays)

  write_steps : (sector : ℕ) (bytes : List ℕ) (reply : Reply) → AnsweredWrite d sector bytes reply old new → Steps d (Write sector bytes) reply old new
  write_steps sector bytes First a = wrote_steps d sector bytes PutFirst old new a.in_range a.fits kept running a.holds a.wrote
  write_steps sector bytes Second a = wrote_steps d sector bytes PutSecond old new a.in_range a.fits kept running a.holds a.wrote
  write_steps sector bytes Declined a = wrote_steps d sector bytes PutDeclined old new a.in_range a.fits kept running a.holds a.wrote
  write_steps sector bytes Fault a = write_fault_steps d sector bytes old new a.in_range a.fits kept running a.holds a.fault
  write_steps sector bytes Range (far, same) = same_steps (Write sector bytes) Range same (λ base. write_range d old base sector bytes far)
  write_steps sector bytes Long (near, many, same) = same_steps (Write sector bytes) Long same (λ base. write_long d old base sector bytes near many)
  write_steps sector bytes Spent (near, fits, spent, same) = same_steps (Write sector bytes) Spent same (λ base. write_spent d old base sector bytes near fits spent)
  write_steps sector bytes reply a = absurd a

  read_answered : (sector : ℕ) (reply : Reply) → AnsweredRead d sector reply old new → Steps d (Read sector) reply old new
  read_answered sector (Bytes bytes) a = read_steps d old new sector a.in_range kept running a.holds a.only_die bytes a.calls a.row
  read_answered sector Fault a = read_fault_steps d old new sector a.in_range kept running a.holds a.only_die a.failed
  read_answered sector Range (far, same) = same_steps (Read sector) Range same (λ base. read_range d old base sector far)
  read_answered sector reply a = absurd a

  trim_steps : (sector : ℕ) (reply : Reply) → AnsweredTrim d sector reply old new → Steps d (Trim sector) reply old new
  trim_steps sector Done a = trimmed_steps d sector old new a.in_range kept running a.holds a.trimmed
  trim_steps sector Fault a = trim_fault_steps d sector old new a.in_range kept running a.holds a.fault
  trim_steps sector Range (far, same) = same_steps (Trim sector) Range same (λ base. trim_range d old base sector far)
  trim_steps sector Spent (near, spent, same) = same_steps (Trim sector) Spent same (λ base. trim_spent d old base sector near spent)
  trim_steps sector reply a = absurd a

  idle_steps : (n : ℕ) (reply : Reply) → AnsweredIdle d n reply old new → Steps d (Idle n) reply old new
  idle_steps n (Moves k) a = idled_steps d n k old new kept running a.0 a.1
  idle_steps n Fault a = idle_fault_steps d n old new kept running a.0 a.1
  idle_steps n reply a = absurd a

  pub answered_steps : (line : Line) (reply : Reply) → Answered d line reply old new → Steps d line reply old new
  answered_steps (Write sector bytes) reply a = write_steps sector bytes reply a
  answered_steps (Read sector) reply a = read_answered sector reply a
  answered_steps (Trim sector) reply a = trim_steps sector reply a
  answered_steps (Idle n) reply a = idle_steps n reply a
  answered_steps line reply a = absurd a

-- ---- as played steps

module _ (d : Numbers) (old new : DeviceValue) (running : old.stopped ≡ false) where
  plays_from : (line : Line) (reply : Reply)
      → ((base : Tallies) → IsSound d.geometry old.view.die.cells → TrueWhileRunning d old
      → (array : ArrayState) × ArrayIs new.stopped (rows_of d new.view) array × IsPlayedStep d (event_of line reply (on d base old) (off base new array)))
      → Plays d line reply old new
  plays_from line reply step base before shows sound book =
      let array : before.array ≡ On (rows_of d old.view) = runs_array old.stopped running (rows_of d old.view) before.array shows.1 in
      let same : before ≡ on d base old = λ i. record { device = shows.0 i; array = array i } in
      let s = step base sound book in
      (off base new s.0, (refl, s.1), rw same s.2)

  plays_on : (line : Line) (reply : Reply) → new.stopped ≡ false → ((base : Tallies) → IsPlayedStep d (event_of line reply (on d base old) (on d base new))) → Plays d line reply old new
  plays_on line reply runs step = plays_from line reply (λ base sound book. (On (rows_of d new.view), array_runs new.stopped runs (rows_of d new.view), step base))

  plays_fault : (line : Line) (Within : ℕ → ℕ → Type 0) (done : List (List ℕ)) → Faulted d Within done old new
      → (ReadFault d Within old new → (base : Tallies) → IsPlayedStep d (event_of line Fault (on d base old) (on d base new)))
      → (IsSound d.geometry old.view.die.cells → ChangeFault d Within done old new → (base : Tallies)
      → IsPlayedStep d (event_of line Fault (on d base old) (off base new (Off (rows_of d old.view) done))))
      → Plays d line Fault old new
  plays_fault line Within done (inl f) read change = plays_on line Fault f.running (read f)
  plays_fault line Within done (inr f) read change = plays_from line Fault (λ base sound book.
      let s = change sound f base in
      (Off (rows_of d old.view) done, array_stops new.stopped f.stopped (rows_of d new.view) (rows_of d old.view) done s.stands_after, s))

-- a line that leaves a view as it is, on a die that need not tell its power
stays_played : (d : Numbers) (v : View) (line : Line) (reply : Reply) → IsPlayed line → StandsFor d v → TrueWhileOn d v → v.device.first < 2 ^ 64 → v.device.second < 2 ^ 64
    → v.device.declined < 2 ^ 64
    → Stays d v line reply → IsPlayedStep d (event_of line reply v v)
stays_played d v line reply is stands book small_first small_second small_declined s =
    let e : Event = event_of line reply v v in
    let none : NoFailure e = none_came v.device.die v.device.die (lowers_none {Bounded = ⊥} v.device.die) in
    record {
      row = s.row;
      stands_before = stands;
      stands_after = stands;
      off = λ h. absurd (s.no_fault h);
      keeps = keeps_same d v.device;
      placed = λ sector bytes tried.
          let p : PlacedExactly d e sector (filled_up d.geometry.sector_bytes bytes) = s.placed sector bytes tried in
          record {
            second = (λ h. (s.no_fault, (p.second.0 h).1), λ h. p.second.1 (none, h.1));
            declined = (λ h. (s.no_fault, (p.declined.0 h).1), λ h. p.declined.1 (none, h.1));
            first = (λ h. (s.no_fault, (p.first.0 h).1), λ h. p.first.1 (none, h.1));
            over_unit = p.over_unit;
            on_clean = p.on_clean;
          };
      cause = λ h. absurd (s.no_fault h);
      refused = s.refused;
      idle = s.idle;
      stays = λ h. record { cells = refl; erases = refl };
      tallies = record { first = omega (arith, s.tallies.0, small_first); second = omega (arith, s.tallies.1, small_second); declined = omega (arith, s.tallies.2, small_declined) };
      true_book = book;
      moves = played_book d v v line reply is s.moves;
      leaves = s.leaves;
    }

module _ (d : Numbers) (old new : DeviceValue) (running : old.stopped ≡ false) where
  plays_same : (line : Line) (reply : Reply) → IsPlayed line → new ≡ old → ((base : Tallies) → Stays d (on d base old) line reply) → Plays d line reply old new
  plays_same line reply is same stays =
      subst (λ (device : DeviceValue). Plays d line reply old device) (sym same)
      (plays_from d old old running line reply (λ base sound book. (
        On (rows_of d old.view),
        array_runs old.stopped running (rows_of d old.view),
        stays_played d (on d base old) line reply is refl (λ o. book running) (omega arith) (omega arith) (omega arith) (stays base),
      )))

  write_plays : (sector : ℕ) (bytes : List ℕ) (reply : Reply) → AnsweredWrite d sector bytes reply old new → Plays d (Write sector bytes) reply old new
  write_plays sector bytes First a = plays_on d old new running (Write sector bytes) First a.wrote.running (λ base. played_wrote d base old new sector bytes PutFirst a)
  write_plays sector bytes Second a = plays_on d old new running (Write sector bytes) Second a.wrote.running (λ base. played_wrote d base old new sector bytes PutSecond a)
  write_plays sector bytes Declined a = plays_on d old new running (Write sector bytes) Declined a.wrote.running (λ base. played_wrote d base old new sector bytes PutDeclined a)
  write_plays sector bytes Fault a =
      plays_fault d old new running (Write sector bytes) (WithinWrite d old.view (filled_up d.geometry.sector_bytes bytes))
      (written d.geometry.sector_bytes (rows_of d old.view) sector bytes) a.fault.fault
      (λ f base. played_write_read_fault d base old new sector bytes a f) (λ sound f base. played_write_change_fault d base old new sector bytes a f (f.rows sound))
  write_plays sector bytes Range (far, same) = plays_same (Write sector bytes) Range tt same (λ base. write_range d old base sector bytes far)
  write_plays sector bytes Long (near, many, same) = plays_same (Write sector bytes) Long tt same (λ base. write_long d old base sector bytes near many)
  write_plays sector bytes Spent (near, fits, spent, same) = plays_same (Write sector bytes) Spent tt same (λ base. write_spent d old base sector bytes near fits spent)
  write_plays sector bytes reply a = absurd a

  read_plays : (sector : ℕ) (reply : Reply) → AnsweredRead d sector reply old new → Plays d (Read sector) reply old new
  read_plays sector (Bytes bytes) a =
      let runs : new.stopped ≡ false = ap (λ (device : DeviceValue). device.stopped) a.only_die.rest ∙ running in
      plays_on d old new running (Read sector) (Bytes bytes) runs (λ base. played_read d base old new sector bytes a runs)
  read_plays sector Fault a =
      let runs : new.stopped ≡ false = ap (λ (device : DeviceValue). device.stopped) a.only_die.rest ∙ running in
      plays_on d old new running (Read sector) Fault runs (λ base. played_read_fault d base old new sector a runs)
  read_plays sector Range (far, same) = plays_same (Read sector) Range tt same (λ base. read_range d old base sector far)
  read_plays sector reply a = absurd a

  trim_plays : (sector : ℕ) (reply : Reply) → AnsweredTrim d sector reply old new → Plays d (Trim sector) reply old new
  trim_plays sector Done a = plays_on d old new running (Trim sector) Done a.trimmed.running (λ base. played_trim d base old new sector a)
  trim_plays sector Fault a =
      plays_fault d old new running (Trim sector) (WithinTrim d old.view sector) (trimmed d.geometry.sector_bytes (rows_of d old.view) sector) a.fault.fault
      (λ f base. played_trim_read_fault d base old new sector a f) (λ sound f base. played_trim_change_fault d base old new sector a f (f.rows sound))
  trim_plays sector Range (far, same) = plays_same (Trim sector) Range tt same (λ base. trim_range d old base sector far)
  trim_plays sector Spent (near, spent, same) = plays_same (Trim sector) Spent tt same (λ base. trim_spent d old base sector near spent)
  trim_plays sector reply a = absurd a

  idle_plays : (n : ℕ) (reply : Reply) → AnsweredIdle d n reply old new → Plays d (Idle n) reply old new
  idle_plays n (Moves k) a = plays_on d old new running (Idle n) (Moves k) a.1.running (λ base. played_idle d base old new n k a.0 a.1)
  idle_plays n Fault a =
      plays_fault d old new running (Idle n) (WithinIdle d n old.view new.view) (rows_of d old.view) a.1.fault
      (λ f base. played_idle_read_fault d base old new n a.0 a.1 f) (λ sound f base. played_idle_change_fault d base old new n a.0 a.1 f (f.rows sound))
  idle_plays n reply a = absurd a

  pub answered_plays : (line : Line) (reply : Reply) → Answered d line reply old new → Plays d line reply old new
  answered_plays (Write sector bytes) reply a = write_plays sector bytes reply a
  answered_plays (Read sector) reply a = read_plays sector reply a
  answered_plays (Trim sector) reply a = trim_plays sector reply a
  answered_plays (Idle n) reply a = idle_plays n reply a
  answered_plays line reply a = absurd a

-- while the device is stopped
pub stopped_plays : (d : Numbers) (old : DeviceValue) (line : Line) → old.stopped ≡ true → IsPlayed line → Plays d line SaysOff old old
stopped_plays d old line stopped is base before shows sound book = (
  before,
  shows,
  step_played d before before line SaysOff is
      (off_step d before line (shows_stands d base (Mounted old) before shows) (stops_array old.stopped stopped (rows_of d old.view) before.array shows.1) (rw shows.0 (small_plus base old.view))
      (played_line line is)),
)
  where
    played_line : (line : Line) → IsPlayed line → AlwaysAnswered line → ⊥
    played_line (Write sector bytes) is always = always
    played_line (Read sector) is always = always
    played_line (Trim sector) is always = always
    played_line (Idle n) is always = always
    played_line line is always = is

-- ---- on a die with power and nothing armed

quiet_fault : {Within : ℕ → ℕ → Type 0} {done : List (List ℕ)} (d : Numbers) (old new : DeviceValue) → Faulted d Within done old new → IsQuiet old.view.die → ⊥
quiet_fault d old new (inl f) quiet = quiet_read quiet f.failed
quiet_fault d old new (inr f) quiet = quiet_change quiet f.failed

quiet_same : (reply : Reply) (old new : DeviceValue) → (reply ≡ Fault → ⊥) → new ≡ old → PlaysQuiet reply old new
quiet_same reply old new other same = record { no_fault = λ quiet. other; stays = λ quiet. rw same quiet }

quiet_went : {changes reads : ℕ} (reply : Reply) (old new : DeviceValue) → (reply ≡ Fault → ⊥) → PassedWithin changes reads old.view.die new.view.die → PlaysQuiet reply old new
quiet_went reply old new other within = record { no_fault = λ quiet. other; stays = λ quiet. quiet_stays_within quiet within }

quiet_failed : (old new : DeviceValue) → (IsQuiet old.view.die → ⊥) → PlaysQuiet Fault old new
quiet_failed old new never = record { no_fault = λ quiet same. never quiet; stays = λ quiet. absurd (never quiet) }

module _ (d : Numbers) (old new : DeviceValue) where
  write_quiet : (sector : ℕ) (bytes : List ℕ) (reply : Reply) → AnsweredWrite d sector bytes reply old new → PlaysQuiet reply old new
  write_quiet sector bytes First a = quiet_went First old new (λ h. cc) a.wrote.calls.within
  write_quiet sector bytes Second a = quiet_went Second old new (λ h. cc) a.wrote.calls.within
  write_quiet sector bytes Declined a = quiet_went Declined old new (λ h. cc) a.wrote.calls.within
  write_quiet sector bytes Fault a = quiet_failed old new (quiet_fault d old new a.fault.fault)
  write_quiet sector bytes Range (far, same) = quiet_same Range old new (λ h. cc) same
  write_quiet sector bytes Long (near, many, same) = quiet_same Long old new (λ h. cc) same
  write_quiet sector bytes Spent (near, fits, spent, same) = quiet_same Spent old new (λ h. cc) same
  write_quiet sector bytes reply a = absurd a

  read_quiet : (sector : ℕ) (reply : Reply) → AnsweredRead d sector reply old new → PlaysQuiet reply old new
  read_quiet sector (Bytes bytes) a = record { no_fault = λ quiet h. cc; stays = λ quiet. quiet_stays quiet a.calls }
  read_quiet sector Fault a = quiet_failed old new (λ quiet. quiet_read quiet a.failed)
  read_quiet sector Range (far, same) = quiet_same Range old new (λ h. cc) same
  read_quiet sector reply a = absurd a

  trim_quiet : (sector : ℕ) (reply : Reply) → AnsweredTrim d sector reply old new → PlaysQuiet reply old new
  trim_quiet sector Done a = quiet_went Done old new (λ h. cc) a.trimmed.calls.within
  trim_quiet sector Fault a = quiet_failed old new (quiet_fault d old new a.fault.fault)
  trim_quiet sector Range (far, same) = quiet_same Range old new (λ h. cc) same
  trim_quiet sector Spent (near, spent, same) = quiet_same Spent old new (λ h. cc) same
  trim_quiet sector reply a = absurd a

  idle_quiet : (n : ℕ) (reply : Reply) → AnsweredIdle d n reply old new → PlaysQuiet reply old new
  idle_quiet n (Moves k) a = quiet_went (Moves k) old new (λ h. cc) a.1.calls
  idle_quiet n Fault a = quiet_failed old new (quiet_fault d old new a.1.fault)
  idle_quiet n reply a = absurd a

  pub answered_quiet : (line : Line) (reply : Reply) → Answered d line reply old new → PlaysQuiet reply old new
  answered_quiet (Write sector bytes) reply a = write_quiet sector bytes reply a
  answered_quiet (Read sector) reply a = read_quiet sector reply a
  answered_quiet (Trim sector) reply a = trim_quiet sector reply a
  answered_quiet (Idle n) reply a = idle_quiet n reply a
  answered_quiet line reply a = absurd a

-- ---- what becomes of the die, whatever its cells

module _ (d : Numbers) (old new : DeviceValue) where
  so : Holds d old new → (Tells old.view.die → Tells new.view.die) → KeepsDie d old.view.die new.view.die
  so holds tells = record { shape = holds.kept.shape; tells = tells; never_falls = holds.kept.never_falls; no_pad = holds.no_pad; sound = holds.sound }

  same_kept : new ≡ old → KeepsDie d old.view.die new.view.die
  same_kept same = subst (λ (device : DeviceValue). KeepsDie d old.view.die device.view.die) (sym same) (keeps_none d old.view.die)

  fault_tells : {Within : ℕ → ℕ → Type 0} {done : List (List ℕ)} → Faulted d Within done old new → Tells old.view.die → Tells new.view.die
  fault_tells (inl f) = read_failed_tells old.view.die new.view.die f.failed
  fault_tells (inr f) = change_failed_tells old.view.die new.view.die f.failed

  write_kept : (sector : ℕ) (bytes : List ℕ) (reply : Reply) → AnsweredWrite d sector bytes reply old new → KeepsDie d old.view.die new.view.die
  write_kept sector bytes First a = so a.holds (went_tells old.view.die new.view.die a.wrote.calls)
  write_kept sector bytes Second a = so a.holds (went_tells old.view.die new.view.die a.wrote.calls)
  write_kept sector bytes Declined a = so a.holds (went_tells old.view.die new.view.die a.wrote.calls)
  write_kept sector bytes Fault a = so a.holds (fault_tells a.fault.fault)
  write_kept sector bytes Range (far, same) = same_kept same
  write_kept sector bytes Long (near, many, same) = same_kept same
  write_kept sector bytes Spent (near, fits, spent, same) = same_kept same
  write_kept sector bytes reply a = absurd a

  read_kept : (sector : ℕ) (reply : Reply) → AnsweredRead d sector reply old new → KeepsDie d old.view.die new.view.die
  read_kept sector (Bytes bytes) a = so a.holds (went_tells old.view.die new.view.die (passed_went {Bounded = ⊥} a.calls))
  read_kept sector Fault a = so a.holds (read_failed_tells old.view.die new.view.die a.failed)
  read_kept sector Range (far, same) = same_kept same
  read_kept sector reply a = absurd a

  trim_kept : (sector : ℕ) (reply : Reply) → AnsweredTrim d sector reply old new → KeepsDie d old.view.die new.view.die
  trim_kept sector Done a = so a.holds (went_tells old.view.die new.view.die a.trimmed.calls)
  trim_kept sector Fault a = so a.holds (fault_tells a.fault.fault)
  trim_kept sector Range (far, same) = same_kept same
  trim_kept sector Spent (near, spent, same) = same_kept same
  trim_kept sector reply a = absurd a

  idle_kept : (n : ℕ) (reply : Reply) → AnsweredIdle d n reply old new → KeepsDie d old.view.die new.view.die
  idle_kept n (Moves k) a = so a.0 (went_tells old.view.die new.view.die (bounded a.1.calls))
  idle_kept n Fault a = so a.0 (fault_tells a.1.fault)
  idle_kept n reply a = absurd a

  pub answered_keeps : (line : Line) (reply : Reply) → Answered d line reply old new → KeepsDie d old.view.die new.view.die
  answered_keeps (Write sector bytes) reply a = write_kept sector bytes reply a
  answered_keeps (Read sector) reply a = read_kept sector reply a
  answered_keeps (Trim sector) reply a = trim_kept sector reply a
  answered_keeps (Idle n) reply a = idle_kept n reply a
  answered_keeps line reply a = absurd a
