-- Writes on a die that tells its power: what a device's call leaves makes a step.
use Rattle.std.proofs.Common.{inl, inr, ℕ, List, true, arith}
use Rattle.rssd_script.specs.declared.lines.Line.TheVariants.{Write}
use Rattle.rssd_script.specs.declared.replies.Reply.TheVariants.{Fault}
use Rattle.rssd_core.specs.declared.device.Placed.{Placed}
use Rattle.rssd_core.specs.declared.device.Placed.TheVariants.{First as PutFirst, Second as PutSecond, Declined as PutDeclined}
use Rattle.rssd_core.specs.SectorArray.{filled_up, written}
use Rattle.page_codec.specs.Sound.{IsSound}
use Rattle.rssd_core.specs.DeviceValue.{Numbers, DeviceView, DeviceValue, rows_of}
use Rattle.rssd_core.specs.Failures.{TellsPower}
use Rattle.rssd_core.specs.Within.{WithinWrite}
use Rattle.rssd_core.specs.Outcomes.{ReadFault, ChangeFault}
use Rattle.rssd_run.specs.ArrayWithCuts.{Off}
use Rattle.rssd_run.specs.Held.{Tallies, plus, on, off, Calm, reply_of}
use Rattle.rssd_run.specs.Played.{WroteSo, WriteFailed}
use Rattle.rssd_run.specs.Step.{IsStep}
use Rattle.rssd_run.proofs.Came.{change_came}
use Rattle.rssd_run.proofs.Parts.{event_of, write_book_so, plus_book, plus_seq}
use Rattle.rssd_run.proofs.PlayedSteps.{played_wrote, played_write_read_fault, played_write_change_fault, passed_step, read_failed_step, change_failed_step}

-- what a call that was cut leaves is as before or as it was to be: over sound cells, or never where no cut is armed
pub calm_rows : {A : Type 0} {Within : ℕ → ℕ → Type 0} {done : List (List ℕ)} (d : Numbers) (old new : DeviceValue) → Calm d old.view.die → TellsPower old.view.die
    → (f : ChangeFault d Within done old new) → (IsSound d.geometry old.view.die.cells → A) → A
calm_rows d old new (inl sound) power f rows = rows sound
calm_rows d old new (inr none) power f rows = absurd (omega (arith, none, (change_came old.view.die new.view.die power f.failed).came.0))

within_plus : (d : Numbers) (base : Tallies) (old : DeviceView) (row : List ℕ) (changes reads : ℕ) → WithinWrite d old row changes reads → WithinWrite d (plus base old) row changes reads
within_plus d base old row changes reads within = record { over = within.over; clean = within.clean }

module _ (d : Numbers) (base : Tallies) (old new : DeviceValue) (sector : ℕ) (bytes : List ℕ) where
  pub wrote_step : (placed : Placed) → TellsPower old.view.die → WroteSo d sector bytes placed old new → IsStep d (event_of (Write sector bytes) (reply_of placed) (on d base old) (on d base new))
  wrote_step PutFirst power a =
      passed_step d (Write sector bytes) (reply_of PutFirst) (on d base old) (on d base new) tt (played_wrote d base old new sector bytes PutFirst a) power a.wrote.calls (λ h. cc) (λ h. cc) tt
  wrote_step PutSecond power a =
      passed_step d (Write sector bytes) (reply_of PutSecond) (on d base old) (on d base new) tt (played_wrote d base old new sector bytes PutSecond a) power a.wrote.calls (λ h. cc) (λ h. cc) tt
  wrote_step PutDeclined power a =
      passed_step d (Write sector bytes) (reply_of PutDeclined) (on d base old) (on d base new) tt (played_wrote d base old new sector bytes PutDeclined a) power a.wrote.calls (λ h. cc) (λ h. cc) tt

  pub write_read_fault : TellsPower old.view.die → WriteFailed d sector bytes old new → ReadFault d (WithinWrite d old.view (filled_up d.geometry.sector_bytes bytes)) old new
      → IsStep d (event_of (Write sector bytes) Fault (on d base old) (on d base new))
  write_read_fault power a f =
      read_failed_step d (Write sector bytes) (on d base old) (on d base new) tt (played_write_read_fault d base old new sector bytes a f) power f.failed
      (within_plus d base old.view (filled_up d.geometry.sector_bytes bytes) f.changes f.reads f.within)

  pub write_change_fault : TellsPower old.view.die → Calm d old.view.die → WriteFailed d sector bytes old new
      → ChangeFault d (WithinWrite d old.view (filled_up d.geometry.sector_bytes bytes)) (written d.geometry.sector_bytes (rows_of d old.view) sector bytes) old new
      → IsStep d (event_of (Write sector bytes) Fault (on d base old) (off base new (Off (rows_of d old.view) (written d.geometry.sector_bytes (rows_of d old.view) sector bytes))))
  write_change_fault power calm a f =
      change_failed_step d (Write sector bytes) (on d base old) (off base new (Off (rows_of d old.view) (written d.geometry.sector_bytes (rows_of d old.view) sector bytes))) tt
      (played_write_change_fault d base old new sector bytes a f (calm_rows d old new calm power f f.rows)) power f.failed
      (within_plus d base old.view (filled_up d.geometry.sector_bytes bytes) f.changes f.reads f.within) (λ on. on)
      (record {
        book = plus_book d base old.view new.view (λ rise at came. at power came) (write_book_so d old new sector (filled_up d.geometry.sector_bytes bytes) true f.stopped a.fault);
        seq = plus_seq d base old.view new.view a.fault.seq;
      })
