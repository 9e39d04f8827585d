-- Lines on a device that runs: what its calls leave are steps for every view that it stands for.
use Rattle.std.proofs.Common.{◌≡◌, ◌⊎◌, inl, inr, ℕ, ◌≤◌, ◌<◌, List, [], IsSomeAnd, Bool, true, false, length, refl, sym, ap, ◌∙◌, slice_index_or}
use Rattle.cell_die.specs.DieState.{DieState, Failures}
use Rattle.cell_die.specs.Calls.{ChangeFailed, CutCame as Cut, Passed, ReadFailed}
use Rattle.cell_die.specs.Power.{told, with_cut, with_read_failure}
use Rattle.rssd_script.specs.declared.lines.Line.{Line}
use Rattle.rssd_script.specs.declared.lines.Line.TheVariants.{Write, Read, Trim, Idle, Cut as CutLine, FailRead}
use Rattle.rssd_script.specs.declared.replies.Reply.{Reply}
use Rattle.rssd_script.specs.declared.replies.Reply.TheVariants.{First, Second, Declined, Fault, Done, Moves, Bytes}
use Rattle.rssd_script.specs.declared.lines.TornWord.{TornWord}
use Rattle.rssd_core.specs.declared.device.Placed.{Placed}
use Rattle.rssd_core.specs.declared.device.Placed.TheVariants.{First as PutFirst, Second as PutSecond, Declined as PutDeclined}
use Rattle.rssd_core.specs.SectorArray.{filled_up, written, trimmed, without_zeros}
use Rattle.rssd_core.specs.DeviceValue.{Numbers, DeviceValue, rows_of, with_die}
use Rattle.rssd_core.specs.Failures.{Tells, TellsPower}
use Rattle.rssd_core.specs.Within.{Went, WithinWrite, WithinTrim, WithinIdle, sector_reads}
use Rattle.rssd_core.specs.Outcomes.{Holds, Wrote, WriteFault, Trimmed, TrimFault, Idled, IdleFault, OnlyDie, Faulted, ReadFault, ChangeFault}
use Rattle.rssd_run.specs.ArrayWithCuts.{On, Off}
use Rattle.rssd_run.specs.Held.{Tallies, on, off, Calm, reply_of}
use Rattle.rssd_run.proofs.LineSteps.{cut_step, fail_read_step, read_step, read_fault_step}
use Rattle.rssd_run.proofs.CommandSteps.{trimmed_step, trim_read_fault, trim_change_fault, idled_step, idle_read_fault, idle_change_fault}
use Rattle.rssd_run.specs.Armed.{form_of_word}
use Rattle.rssd_run.specs.Step.{IsStep, KeepsDie}
use Rattle.rssd_run.specs.Played.{WriteFailed, TrimFailed}
use Rattle.rssd_run.specs.Steps.{IsKept, Steps, ArrayIs}
use Rattle.rssd_run.proofs.Came.{power_tells, went_tells, change_failed_tells, read_failed_tells, went_power, AReadCame, read_came, powered_case, passed_went}
use Rattle.rssd_run.proofs.Still.{keeps_die, still_tells, still_powered}
use Rattle.rssd_run.proofs.Parts.{event_of, bounded}
use Rattle.rssd_run.proofs.WriteSteps.{wrote_step, write_read_fault, write_change_fault}

pub change_tells : {changes reads : ℕ} (old new : DieState) → TellsPower old → ChangeFailed changes reads old new → Tells new
change_tells {changes} {reads} old new power failed =
    powered_case (Cut changes reads) (λ x y. IsSomeAnd y (λ f. Unit {0})) (λ a b c. tt) old.failures new.failures power failed.failures

pub array_runs : (stopped : Bool) → stopped ≡ false → (rows : List (List ℕ)) → ArrayIs stopped rows (On rows)
array_runs true e rows = cc
array_runs false e rows = refl

pub array_stops : (stopped : Bool) → stopped ≡ true → (rows a b : List (List ℕ)) → (rows ≡ a) ⊎ (rows ≡ b) → ArrayIs stopped rows (Off a b)
array_stops true e rows a b one = (tt, one)
array_stops false e rows a b one = cc

-- a step of a device that runs on
pub runs_on : (d : Numbers) (line : Line) (reply : Reply) (old new : DeviceValue) → IsKept d new → KeepsDie d old.view.die new.view.die → new.stopped ≡ false
    → (Calm d old.view.die → (base : Tallies) → IsStep d (event_of line reply (on d base old) (on d base new))) → Steps d line reply old new
runs_on d line reply old new kept keeps running step = record {
  kept = kept;
  keeps = keeps;
  step = λ calm base. (On (rows_of d new.view), array_runs new.stopped running (rows_of d new.view), step calm base);
}

module _ (d : Numbers) (old new : DeviceValue) (kept : IsKept d old) (running : old.stopped ≡ false) (holds : Holds d old new) where
  -- what the session keeps of a device that runs on, and of one that is stopped
  kept_on : TellsPower new.view.die → IsKept d new
  kept_on power = record {
    numbers = holds.numbers ∙ kept.numbers;
    shape = holds.kept.shape ∙ kept.shape;
    tells = power_tells new.view.die power;
    power = λ r. power;
    book = holds.true_book;
  }

  kept_stopped : {changes reads : ℕ} → ChangeFailed changes reads old.view.die new.view.die → new.stopped ≡ true → IsKept d new
  kept_stopped failed stopped = record {
    numbers = holds.numbers ∙ kept.numbers;
    shape = holds.kept.shape ∙ kept.shape;
    tells = change_tells old.view.die new.view.die (kept.power running) failed;
    power = λ r. let both : true ≡ false = sym stopped ∙ r in cc;
    book = holds.true_book;
  }

  -- and what becomes of its die
  die_kept : (Tells old.view.die → Tells new.view.die) → KeepsDie d old.view.die new.view.die
  die_kept tells = record { shape = holds.kept.shape; tells = tells; never_falls = holds.kept.never_falls; no_pad = holds.no_pad; sound = holds.sound }

  -- a call that passed
  pub went_steps : {changes reads : ℕ} {Bounded : Type 0} (line : Line) (reply : Reply) → Went changes reads Bounded old.view.die new.view.die → new.stopped ≡ false
      → ((base : Tallies) → IsStep d (event_of line reply (on d base old) (on d base new))) → Steps d line reply old new
  went_steps line reply went runs step =
      runs_on d line reply old new (kept_on (went_power old.view.die new.view.die (kept.power running) went)) (die_kept (went_tells old.view.die new.view.die went)) runs (λ calm. step)

  -- a call in which the die failed
  pub fault_steps : (line : Line) (Within : ℕ → ℕ → Type 0) (done : List (List ℕ)) → Faulted d Within done old new
      → (ReadFault d Within old new → (base : Tallies) → IsStep d (event_of line Fault (on d base old) (on d base new)))
      → (ChangeFault d Within done old new → Calm d old.view.die → (base : Tallies) → IsStep d (event_of line Fault (on d base old) (off base new (Off (rows_of d old.view) done))))
      → Steps d line Fault old new
  fault_steps line Within done (inl f) read change =
      let came : AReadCame f.changes f.reads old.view.die new.view.die = read_came old.view.die new.view.die (kept.power running) f.failed in
      runs_on d line Fault old new (kept_on came.power) (die_kept (read_failed_tells old.view.die new.view.die f.failed)) f.running (λ calm. read f)
  fault_steps line Within done (inr f) read change = record {
    kept = kept_stopped f.failed f.stopped;
    keeps = die_kept (change_failed_tells old.view.die new.view.die f.failed);
    step = λ calm base.
        let s = change f calm base in
        (Off (rows_of d old.view) done, array_stops new.stopped f.stopped (rows_of d new.view) (rows_of d old.view) done s.stands_after, s);
  }

-- ---- writes

pub wrote_steps : (d : Numbers) (sector : ℕ) (bytes : List ℕ) (placed : Placed) (old new : DeviceValue) → sector < d.geometry.sectors → length bytes ≤ d.geometry.sector_bytes → IsKept d old
    → old.stopped ≡ false → Holds d old new → Wrote d sector (filled_up d.geometry.sector_bytes bytes) placed old new → Steps d (Write sector bytes) (reply_of placed) old new
wrote_steps d sector bytes PutFirst old new in_range fits kept running holds w =
    went_steps d old new kept running holds (Write sector bytes) First w.calls w.running
    (λ base. wrote_step d base old new sector bytes PutFirst (kept.power running) (record { in_range = in_range; fits = fits; holds = holds; wrote = w }))
wrote_steps d sector bytes PutSecond old new in_range fits kept running holds w =
    went_steps d old new kept running holds (Write sector bytes) Second w.calls w.running
    (λ base. wrote_step d base old new sector bytes PutSecond (kept.power running) (record { in_range = in_range; fits = fits; holds = holds; wrote = w }))
wrote_steps d sector bytes PutDeclined old new in_range fits kept running holds w =
    went_steps d old new kept running holds (Write sector bytes) Declined w.calls w.running
    (λ base. wrote_step d base old new sector bytes PutDeclined (kept.power running) (record { in_range = in_range; fits = fits; holds = holds; wrote = w }))

pub write_fault_steps : (d : Numbers) (sector : ℕ) (bytes : List ℕ) (old new : DeviceValue) → sector < d.geometry.sectors → length bytes ≤ d.geometry.sector_bytes → IsKept d old
    → old.stopped ≡ false → Holds d old new → WriteFault d sector (filled_up d.geometry.sector_bytes bytes) old new → Steps d (Write sector bytes) Fault old new
write_fault_steps d sector bytes old new in_range fits kept running holds w =
    let failed : WriteFailed d sector bytes old new = record { in_range = in_range; fits = fits; holds = holds; fault = w } in
    fault_steps d old new kept running holds (Write sector bytes) (WithinWrite d old.view (filled_up d.geometry.sector_bytes bytes))
    (written d.geometry.sector_bytes (rows_of d old.view) sector bytes) w.fault
    (λ f base. write_read_fault d base old new sector bytes (kept.power running) failed f)
    (λ f calm base. write_change_fault d base old new sector bytes (kept.power running) calm failed f)

-- ---- trims and idle calls

pub trimmed_steps : (d : Numbers) (sector : ℕ) (old new : DeviceValue) → sector < d.geometry.sectors → IsKept d old → old.stopped ≡ false → Holds d old new
    → Trimmed d sector old new → Steps d (Trim sector) Done old new
trimmed_steps d sector old new in_range kept running holds w =
    went_steps d old new kept running holds (Trim sector) Done w.calls w.running
    (λ base. trimmed_step d base old new sector (kept.power running) (record { in_range = in_range; holds = holds; trimmed = w }))

pub trim_fault_steps : (d : Numbers) (sector : ℕ) (old new : DeviceValue) → sector < d.geometry.sectors → IsKept d old → old.stopped ≡ false → Holds d old new
    → TrimFault d sector old new → Steps d (Trim sector) Fault old new
trim_fault_steps d sector old new in_range kept running holds w =
    let failed : TrimFailed d sector old new = record { in_range = in_range; holds = holds; fault = w } in
    fault_steps d old new kept running holds (Trim sector) (WithinTrim d old.view sector) (trimmed d.geometry.sector_bytes (rows_of d old.view) sector) w.fault
    (λ f base. trim_read_fault d base old new sector (kept.power running) failed f) (λ f calm base. trim_change_fault d base old new sector (kept.power running) calm failed f)

pub idled_steps : (d : Numbers) (n k : ℕ) (old new : DeviceValue) → IsKept d old → old.stopped ≡ false → Holds d old new → Idled d n k old new → Steps d (Idle n) (Moves k) old new
idled_steps d n k old new kept running holds w =
    went_steps d old new kept running holds (Idle n) (Moves k) (bounded w.calls) w.running (λ base. idled_step d base old new n (kept.power running) holds k w)

pub idle_fault_steps : (d : Numbers) (n : ℕ) (old new : DeviceValue) → IsKept d old → old.stopped ≡ false → Holds d old new → IdleFault d n old new → Steps d (Idle n) Fault old new
idle_fault_steps d n old new kept running holds w =
    fault_steps d old new kept running holds (Idle n) (WithinIdle d n old.view new.view) (rows_of d old.view) w.fault
    (λ f base. idle_read_fault d base old new n (kept.power running) holds w f) (λ f calm base. idle_change_fault d base old new n (kept.power running) holds calm w f)

-- ---- lines that arm failures: the die tells as before, and keeps its power

module _ (change : Failures → Failures) (same : (failures : Failures) → (change failures).powered ≡ failures.powered) where
  told_kept : (d : Numbers) (old : DeviceValue) → IsKept d old → IsKept d (with_die (told change) old)
  told_kept d old kept = record {
    numbers = kept.numbers;
    shape = kept.shape;
    tells = still_tells change same old.view.die.failures kept.tells;
    power = λ running. still_powered change same old.view.die.failures (kept.power running);
    book = kept.book;
  }

pub cut_steps : (d : Numbers) (old : DeviceValue) (n : ℕ) (torn : TornWord) → 1 ≤ n → IsKept d old → old.stopped ≡ false
    → Steps d (CutLine n torn) Done old (with_die (told (with_cut n (form_of_word torn))) old)
cut_steps d old n torn some kept running =
    runs_on d (CutLine n torn) Done old (with_die (told (with_cut n (form_of_word torn))) old) (told_kept (with_cut n (form_of_word torn)) (λ failures. refl) d old kept)
    (keeps_die d old.view.die (told (with_cut n (form_of_word torn)) old.view.die) refl (record { cells = refl; erases = refl })
    (still_tells (with_cut n (form_of_word torn)) (λ failures. refl) old.view.die.failures)) running
    (λ calm base. cut_step d base old n torn some running (kept.power running) kept.book)

pub fail_read_steps : (d : Numbers) (old : DeviceValue) (n : ℕ) → 1 ≤ n → IsKept d old → old.stopped ≡ false → Steps d (FailRead n) Done old (with_die (told (with_read_failure n)) old)
fail_read_steps d old n some kept running =
    runs_on d (FailRead n) Done old (with_die (told (with_read_failure n)) old) (told_kept (with_read_failure n) (λ failures. refl) d old kept)
    (keeps_die d old.view.die (told (with_read_failure n) old.view.die) refl (record { cells = refl; erases = refl })
    (still_tells (with_read_failure n) (λ failures. refl) old.view.die.failures)) running
    (λ calm base. fail_read_step d base old n some running (kept.power running) kept.book)

-- ---- reads

-- after a read nothing but the die differs
module _ (d : Numbers) (old new : DeviceValue) (sector : ℕ) (in_range : sector < d.geometry.sectors) (kept : IsKept d old) (running : old.stopped ≡ false) (holds : Holds d old new)
    (only : OnlyDie old new) where
  runs : new.stopped ≡ false
  runs = ap (λ device. device.stopped) only.rest ∙ running

  pub read_steps : (bytes : List ℕ) → Passed 0 (sector_reads d old.view sector) old.view.die new.view.die → bytes ≡ without_zeros (slice_index_or (rows_of d old.view) sector [])
      → Steps d (Read sector) (Bytes bytes) old new
  read_steps bytes passed is_row =
      went_steps d old new kept running holds (Read sector) (Bytes bytes) (passed_went {Bounded = ⊥} passed) runs
      (λ base. read_step d base old new sector (kept.power running) bytes (record { in_range = in_range; holds = holds; only_die = only; calls = passed; row = is_row }) runs)

  pub read_fault_steps : ReadFailed 0 (sector_reads d old.view sector) old.view.die new.view.die → Steps d (Read sector) Fault old new
  read_fault_steps failed =
      let came : AReadCame 0 (sector_reads d old.view sector) old.view.die new.view.die = read_came old.view.die new.view.die (kept.power running) failed in
      runs_on d (Read sector) Fault old new (kept_on d old new kept running holds came.power) (die_kept d old new kept running holds (read_failed_tells old.view.die new.view.die failed)) runs
      (λ calm base. read_fault_step d base old new sector (kept.power running) (record { in_range = in_range; holds = holds; only_die = only; failed = failed }) runs)
