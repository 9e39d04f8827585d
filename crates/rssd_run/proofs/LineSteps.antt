-- Lines that arm failures, and reads.
use Rattle.std.proofs.Common.{◌≡◌, ◌≢◌, ℕ, ◌≤◌, List, false, refl, arith}
use Rattle.cell_die.specs.Changes.{SameCells}
use Rattle.cell_die.specs.Power.{told, with_cut, with_read_failure}
use Rattle.rssd_script.specs.declared.lines.TornWord.{TornWord}
use Rattle.rssd_script.specs.declared.lines.Line.TheVariants.{Cut, FailRead, Read}
use Rattle.rssd_script.specs.declared.replies.Reply.TheVariants.{Done, Bytes, Fault}
use Rattle.rssd_core.specs.DeviceValue.{Numbers, DeviceValue, rows_of, with_die}
use Rattle.rssd_core.specs.Failures.{TellsPower}
use Rattle.rssd_core.specs.Outcomes.{TrueWhileRunning}
use Rattle.rssd_run.specs.View.{Event, NoFailure}
use Rattle.rssd_run.specs.Held.{Tallies, plus, on}
use Rattle.rssd_run.specs.Armed.{form_of_word}
use Rattle.rssd_run.specs.Step.{IsStep, RefusedExactly, IdleAnswer}
use Rattle.rssd_run.specs.Moves.{BookMoves}
use Rattle.rssd_run.specs.Leaves.{Leaves}
use Rattle.rssd_run.specs.Armed.{IsArming, Arms}
use Rattle.rssd_run.specs.ArrayWithCuts.{On, Row}
use Rattle.rssd_script.specs.declared.lines.Line.{Line}
use Rattle.rssd_script.specs.declared.lines.Line.TheVariants.{Write, Mount}
use Rattle.cell_die.specs.DieState.{Failures}
use Rattle.rssd_run.proofs.Came.{passed_went}
use Rattle.rssd_run.proofs.Parts.{not_refused, no_fault}
use Rattle.rssd_run.proofs.Still.{keeps_cells, same_book, same_seq, armed_cut_none, armed_read_none, still_tells, still_powered}
use Rattle.rssd_run.proofs.Parts.{event_of}
use Rattle.rssd_run.specs.Played.{ReadSo, ReadWithFault}
use Rattle.rssd_run.proofs.PlayedSteps.{played_read, played_read_fault, passed_step, read_failed_step}

-- the event of a line that changes so what the die tells
abbrev arming : Numbers → Tallies → DeviceValue → (Failures → Failures) → Line → Event
arming d base old change line = event_of line Done (on d base old) (on d base (with_die (told change) old))

-- a line that arms a failure moves nothing but that number
module _ (d : Numbers) (base : Tallies) (old : DeviceValue) (change : Failures → Failures) (as_powered : (failures : Failures) → (change failures).powered ≡ failures.powered)
    (running : old.stopped ≡ false) (power : TellsPower old.view.die) (book : TrueWhileRunning d old) where
  armed_step : (line : Line) → ((sector : ℕ) (bytes : List ℕ) → line ≡ Write sector bytes → ⊥) → line ≢ Mount → NoFailure (arming d base old change line)
      → Row d.geometry.sector_bytes (On (rows_of d old.view)) line Done (On (rows_of d old.view)) → RefusedExactly d (arming d base old change line)
      → IdleAnswer (arming d base old change line) line Done → BookMoves d (arming d base old change line) line Done → IsArming line Done
      → Arms (arming d base old change line) line Done → Leaves d (arming d base old change line) line Done → IsStep d (arming d base old change line)
  armed_step line no_write no_mount none row exactly idle moves is_arming arms leaves =
      let new : DeviceValue = with_die (told change) old in
      let same : SameCells old.view.die new.view.die = record { cells = refl; erases = refl } in
      record {
        row = row;
        stands_before = refl;
        stands_after = refl;
        off = λ h. cc;
        keeps = keeps_cells d (plus base old.view) (plus base new.view) refl same (still_tells change as_powered old.view.die.failures);
        placed = λ s b t. absurd (no_write s b t.write);
        fault = no_fault (arming d base old change line) (λ h. cc) none;
        answers = record {
          refused = exactly;
          idle = idle;
          no_spare = record { only = λ h. cc; always = λ h. absurd (no_mount h) };
          stays = λ h. same;
          stat = tt;
          tallies = record { first = omega arith; second = omega arith; declined = omega arith };
        };
        true_book = λ h. book running;
        moves = moves;
        armed = record { arms = arms; lowers = λ not. absurd (not is_arming); fault = λ h. cc };
        power = λ on tells. still_powered change as_powered old.view.die.failures power;
        leaves = leaves;
      }

pub cut_step : (d : Numbers) (base : Tallies) (old : DeviceValue) (n : ℕ) (torn : TornWord) → 1 ≤ n → old.stopped ≡ false → TellsPower old.view.die → TrueWhileRunning d old
    → IsStep d (event_of (Cut n torn) Done (on d base old) (on d base (with_die (told (with_cut n (form_of_word torn))) old)))
cut_step d base old n torn some running power book =
    let change = with_cut n (form_of_word torn) in
    let new : DeviceValue = with_die (told change) old in
    armed_step d base old change (λ failures. refl) running power book (Cut n torn) (λ s b h. cc) (λ h. cc) (armed_cut_none n (form_of_word torn) some old.view.die.failures) refl
    (not_refused d (arming d base old change (Cut n torn)) tt (λ h. h) (λ h. h) (λ h. h) (λ h. cc) (λ h. cc) (λ h. cc) (λ h. cc)) tt
    (record { book = same_book d (plus base old.view) (plus base new.view) refl refl (omega arith) (λ c. tt) refl refl; seq = same_seq d (plus base old.view) (plus base new.view) refl refl }, tt)
    tt refl refl

pub fail_read_step : (d : Numbers) (base : Tallies) (old : DeviceValue) (n : ℕ) → 1 ≤ n → old.stopped ≡ false → TellsPower old.view.die → TrueWhileRunning d old
    → IsStep d (event_of (FailRead n) Done (on d base old) (on d base (with_die (told (with_read_failure n)) old)))
fail_read_step d base old n some running power book =
    let change = with_read_failure n in
    let new : DeviceValue = with_die (told change) old in
    armed_step d base old change (λ failures. refl) running power book (FailRead n) (λ s b h. cc) (λ h. cc) (armed_read_none n some old.view.die.failures) refl
    (not_refused d (arming d base old change (FailRead n)) tt (λ h. h) (λ h. h) (λ h. h) (λ h. cc) (λ h. cc) (λ h. cc) (λ h. cc)) tt
    (record { book = same_book d (plus base old.view) (plus base new.view) refl refl (omega arith) (λ c. tt) refl refl; seq = same_seq d (plus base old.view) (plus base new.view) refl refl }, tt)
    tt refl refl

module _ (d : Numbers) (base : Tallies) (old new : DeviceValue) (sector : ℕ) (power : TellsPower old.view.die) where
  pub read_step : (bytes : List ℕ) → ReadSo d sector bytes old new → new.stopped ≡ false → IsStep d (event_of (Read sector) (Bytes bytes) (on d base old) (on d base new))
  read_step bytes a runs =
      passed_step d (Read sector) (Bytes bytes) (on d base old) (on d base new) tt (played_read d base old new sector bytes a runs) power (passed_went a.calls) (λ h. cc) (λ h. cc) tt

  pub read_fault_step : ReadWithFault d sector old new → new.stopped ≡ false → IsStep d (event_of (Read sector) Fault (on d base old) (on d base new))
  read_fault_step a runs =
      read_failed_step d (Read sector) (on d base old) (on d base new) tt (played_read_fault d base old new sector a runs) power a.failed (refl, omega arith)
