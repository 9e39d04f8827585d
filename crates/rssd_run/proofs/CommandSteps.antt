-- Trims and idle calls: what a device's call leaves makes a step.
use Rattle.std.proofs.Common.{ℕ, true}
use Rattle.rssd_script.specs.declared.lines.Line.TheVariants.{Trim, Idle}
use Rattle.rssd_script.specs.declared.replies.Reply.TheVariants.{Done, Moves, Fault}
use Rattle.rssd_core.specs.SectorArray.{trimmed}
use Rattle.rssd_core.specs.DeviceValue.{Numbers, DeviceView, DeviceValue, rows_of}
use Rattle.rssd_core.specs.Failures.{TellsPower}
use Rattle.rssd_core.specs.Within.{WithinTrim, WithinIdle}
use Rattle.rssd_core.specs.Outcomes.{Holds, Idled, IdleFault, ReadFault, ChangeFault}
use Rattle.rssd_run.specs.ArrayWithCuts.{Off}
use Rattle.rssd_run.specs.Held.{Tallies, plus, on, off, Calm}
use Rattle.rssd_run.specs.Step.{IsStep}
use Rattle.rssd_run.proofs.Parts.{event_of, bounded}
use Rattle.rssd_run.proofs.WriteSteps.{calm_rows}
use Rattle.rssd_run.specs.Played.{TrimmedSo, TrimFailed}
use Rattle.rssd_run.proofs.PlayedSteps.{played_trim, played_trim_read_fault, played_trim_change_fault, played_idle, played_idle_read_fault, played_idle_change_fault}
use Rattle.rssd_run.proofs.PlayedSteps.{passed_step, read_failed_step, change_failed_step}
use Rattle.rssd_run.proofs.Parts.{plus_book, plus_seq, trim_book_so}

trim_plus : (d : Numbers) (base : Tallies) (old : DeviceView) (sector changes reads : ℕ) → WithinTrim d old sector changes reads → WithinTrim d (plus base old) sector changes reads
trim_plus d base old sector changes reads w = record { changes_at_most = w.changes_at_most; reads_at_most = w.reads_at_most }

idle_plus : (d : Numbers) (base : Tallies) (n : ℕ) (old new : DeviceView) (changes reads : ℕ) → WithinIdle d n old new changes reads → WithinIdle d n (plus base old) (plus base new) changes reads
idle_plus d base n old new changes reads w = record {
  moves = w.moves;
  some_left = w.some_left;
  finished = w.finished;
  changes_at_most = w.changes_at_most;
  reads_at_most = w.reads_at_most;
}

module _ (d : Numbers) (base : Tallies) (old new : DeviceValue) (sector : ℕ) (power : TellsPower old.view.die) where
  pub trimmed_step : TrimmedSo d sector old new → IsStep d (event_of (Trim sector) Done (on d base old) (on d base new))
  trimmed_step a = passed_step d (Trim sector) Done (on d base old) (on d base new) tt (played_trim d base old new sector a) power a.trimmed.calls (λ h. cc) (λ h. cc) tt

  pub trim_read_fault : TrimFailed d sector old new → ReadFault d (WithinTrim d old.view sector) old new → IsStep d (event_of (Trim sector) Fault (on d base old) (on d base new))
  trim_read_fault a f =
      read_failed_step d (Trim sector) (on d base old) (on d base new) tt (played_trim_read_fault d base old new sector a f) power f.failed
      (trim_plus d base old.view sector f.changes f.reads f.within)

  pub trim_change_fault : Calm d old.view.die → TrimFailed d sector old new → ChangeFault d (WithinTrim d old.view sector) (trimmed d.geometry.sector_bytes (rows_of d old.view) sector) old new
      → IsStep d (event_of (Trim sector) Fault (on d base old) (off base new (Off (rows_of d old.view) (trimmed d.geometry.sector_bytes (rows_of d old.view) sector))))
  trim_change_fault calm a f =
      change_failed_step d (Trim sector) (on d base old) (off base new (Off (rows_of d old.view) (trimmed d.geometry.sector_bytes (rows_of d old.view) sector))) tt
      (played_trim_change_fault d base old new sector a f (calm_rows d old new calm power f f.rows)) power f.failed (trim_plus d base old.view sector f.changes f.reads f.within) (λ on. on)
      (record { book = plus_book d base old.view new.view (λ rise at came. at power came) (trim_book_so d old new sector true f.stopped a.fault); seq = plus_seq d base old.view new.view a.fault.seq })

module _ (d : Numbers) (base : Tallies) (old new : DeviceValue) (n : ℕ) (power : TellsPower old.view.die) (holds : Holds d old new) where
  pub idled_step : (k : ℕ) → Idled d n k old new → IsStep d (event_of (Idle n) (Moves k) (on d base old) (on d base new))
  idled_step k w = passed_step d (Idle n) (Moves k) (on d base old) (on d base new) tt (played_idle d base old new n k holds w) power (bounded w.calls) (λ h. cc) (λ h. cc) tt

  pub idle_read_fault : IdleFault d n old new → ReadFault d (WithinIdle d n old.view new.view) old new → IsStep d (event_of (Idle n) Fault (on d base old) (on d base new))
  idle_read_fault w f =
      read_failed_step d (Idle n) (on d base old) (on d base new) tt (played_idle_read_fault d base old new n holds w f) power f.failed
      (idle_plus d base n old.view new.view f.changes f.reads f.within)

  pub idle_change_fault : Calm d old.view.die → IdleFault d n old new → ChangeFault d (WithinIdle d n old.view new.view) (rows_of d old.view) old new
      → IsStep d (event_of (Idle n) Fault (on d base old) (off base new (Off (rows_of d old.view) (rows_of d old.view))))
  idle_change_fault calm w f =
      change_failed_step d (Idle n) (on d base old) (off base new (Off (rows_of d old.view) (rows_of d old.view))) tt
      (played_idle_change_fault d base old new n holds w f (calm_rows d old new calm power f f.rows)) power f.failed (idle_plus d base n old.view new.view f.changes f.reads f.within) (λ on. on)
      (record { book = plus_book d base old.view new.view (λ rise at came. at power came) w.book; seq = plus_seq d base old.view new.view w.seq })
