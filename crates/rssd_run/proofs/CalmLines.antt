-- A line that arms nothing and mounts nothing leaves a calm session calm, and its reply is no fault.
use Rattle.std.proofs.Common.{◌≡◌, inl, ℕ, false, List, [], ◌∷◌, ◌++◌, slice_index_or, refl, ap, ◌∙◌}
use Rattle.rssd_script.specs.declared.lines.Line.{Line}
use Rattle.rssd_script.specs.declared.lines.Line.TheVariants.{Write, Read, Trim, Idle, Stat}
use Rattle.rssd_script.specs.declared.replies.Reply.{Reply}
use Rattle.rssd_script.specs.declared.replies.Reply.TheVariants.{Fault}
use Rattle.rssd_core.specs.DeviceValue.{Numbers}
use Rattle.rssd_core.specs.SectorArray.{written, trimmed}
use Rattle.rssd_run.specs.ArrayWithCuts.{ArrayState, On, Off, Row, OnRow}
use Rattle.rssd_run.specs.View.{View, Event, IsOn}
use Rattle.rssd_run.specs.Step.{IsStep}
use Rattle.rssd_run.specs.Calm.{is_arming, NeverFails}
use Rattle.rssd_run.specs.Shows.{SessionValue, HasNumbers, StepsSession}
use Rattle.rssd_run.specs.Workloads.{IsCalmAt, RunsLines}
use Rattle.rssd_run.proofs.Calm.{IsUnarmed, step_fails, step_unarmed, write_on, trim_on, read_on, idle_on, stat_on}
use Rattle.rssd_run.proofs.Runs.{run_none, run_more, lines_more}

-- a line that arms nothing and mounts nothing
abbrev pub IsPlain : Line → Type 0
IsPlain (Write sector bytes) = Unit {0}
IsPlain (Read sector) = Unit {0}
IsPlain (Trim sector) = Unit {0}
IsPlain (Idle n) = Unit {0}
IsPlain Stat = Unit {0}
IsPlain line = ⊥

pub plain_arming : (line : Line) → IsPlain line → is_arming line ≡ false
plain_arming (Write sector bytes) plain = refl
plain_arming (Read sector) plain = refl
plain_arming (Trim sector) plain = refl
plain_arming (Idle n) plain = refl
plain_arming Stat plain = refl
plain_arming line plain = absurd plain

plain_on : (size : ℕ) (rows : List (List ℕ)) (line : Line) (reply : Reply) (next : ArrayState) → IsPlain line → OnRow size rows line reply next → (reply ≡ Fault → ⊥) → IsOn next
plain_on size rows (Write sector bytes) reply next plain row good = write_on rows (written size rows sector bytes) reply next row good
plain_on size rows (Read sector) reply next plain row good = read_on rows (slice_index_or rows sector []) reply next row
plain_on size rows (Trim sector) reply next plain row good = trim_on rows (trimmed size rows sector) reply next row good
plain_on size rows (Idle n) reply next plain row good = idle_on rows reply next row good
plain_on size rows Stat reply next plain row good = stat_on rows reply next row
plain_on size rows line reply next plain row good = absurd plain

pub plain_stays_on : (size : ℕ) (array : ArrayState) (line : Line) (reply : Reply) (next : ArrayState) → IsPlain line → IsOn array → Row size array line reply next → (reply ≡ Fault → ⊥) → IsOn next
plain_stays_on size (On rows) line reply next plain on row good = plain_on size rows line reply next plain row good
plain_stays_on size (Off old new) line reply next plain on row good = absurd on

-- what such a line leaves
pub record IsCalmStep (d : Numbers) (new : SessionValue) (before : View) (line : Line) (reply : Reply) : Type 0 where
  pub after : View
  pub calm : IsCalmAt d new after
  pub step : IsStep d (record { line = line; reply = reply; before = before; after = after })
  pub never : NeverFails (record { line = line; reply = reply; before = before; after = after })

module _ (d : Numbers) (line : Line) (reply : Reply) (old new : SessionValue) where
  pub calm_step : (before : View) → IsCalmAt d old before → IsPlain line → HasNumbers d new.holding → StepsSession d line reply old new → IsCalmStep d new before line reply
  calm_step before calm plain numbers steps =
      let so = steps.step before calm.shows (inl calm.sound) in
      let e : Event = record { line = line; reply = reply; before = before; after = so.0 } in
      let unarmed : IsUnarmed d before = record { cut = calm.no_cut; read = calm.no_read_failure; free = calm.sound.one_free } in
      let never : NeverFails e = step_fails d e so.2 unarmed in
      let later : IsUnarmed d so.0 = step_unarmed d e so.2 unarmed (plain_arming line plain) in
      record {
        after = so.0;
        calm = record {
          numbers = numbers;
          shows = so.1;
          on = plain_stays_on d.geometry.sector_bytes before.array line reply so.0.array plain calm.on so.2.row never.no_fault;
          sound = so.2.keeps.sound calm.sound;
          no_cut = later.cut;
          no_read_failure = later.read;
        };
        step = so.2;
        never = never;
      }

-- ---- runs of lines

pub runs_none : (d : Numbers) (view : View) → RunsLines d view [] view
runs_none d view = record { events = []; run = run_none d view; of_lines = refl }

pub runs_more : (d : Numbers) (before now after : View) (lines : List Line) (line : Line) (reply : Reply) → RunsLines d before lines now
    → IsStep d (record { line = line; reply = reply; before = now; after = after }) → RunsLines d before (lines ++ line ∷ []) after
runs_more d before now after lines line reply r step =
    let e : Event = record { line = line; reply = reply; before = now; after = after } in
    record {
      events = r.events ++ e ∷ [];
      run = run_more d before r.events now e r.run refl step;
      of_lines = lines_more r.events e ∙ ap (λ (ls : List Line). ls ++ line ∷ []) r.of_lines;
    }
