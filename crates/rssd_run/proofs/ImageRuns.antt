-- What was read, run and given makes what the top call says of `run`.
use Rattle.std.proofs.Common.{◌≡◌, inl, inr, ◌++◌, ◌∷◌, [], ℕ, Bool, false, List, sym, subst}
use Rattle.std.specs.Prelude.{Result, Ok, Err, true, is_err}
use Rattle.std.proofs.lemmas.Bool.{false≢true}
use Rattle.cell_die.specs.DieState.{DieState}
use Rattle.rssd_io.specs.Event.{Event, Flushed, flushed, failed}
use Rattle.die_image.specs.declared.head.ImageHead.{ImageHead}
use Rattle.rssd_script.specs.declared.lines.Line.{Line}
use Rattle.rssd_run.specs.GiveImage.{image_pieces}
use Rattle.rssd_run.specs.ReadScript.{ReadsAll}
use Rattle.rssd_run.specs.ReadImage.{ReadsImage}
use Rattle.rssd_run.specs.ImageRuns.{HasCells, RunsImage, RunsImageFront, IsFull}
use Rattle.rssd_run.specs.Statuses.{Input, Output, Took, TookPart, GaveLine, WriteFailed, no_spare}
use Rattle.rssd_run.specs.Top.{AreGiven, AllRun, IsRun, IsRunCutOff, IsImageCutOff, IsBadImage}

-- ---- whether a flush failed

pub flush_failed : {E : Type 0} (result : Result (Unit {0}) E) (old new : List Event) → true ≡ is_err result → Flushed result old new → new ≡ old ++ failed ∷ []
flush_failed (Ok x) old new is flushes = absurd (false≢true (sym is))
flush_failed (Err e) old new is flushes = flushes

pub flush_worked : {E : Type 0} (result : Result (Unit {0}) E) (old new : List Event) → false ≡ is_err result → Flushed result old new → new ≡ old ++ flushed ∷ []
flush_worked (Ok x) old new is flushes = flushes
flush_worked (Err e) old new is flushes = absurd (false≢true is)

-- ---- what was read

pub record Read (image script : Input) (lines : List Line) (head : ImageHead) (cells : List ℕ) : Type 0 where
  pub is_old : Bool
  pub new : is_old ≡ false
  pub is_script : ReadsAll script.before script.after lines
  pub is_image : ReadsImage is_old image.before image.after head cells

module _ (image script : Input) (out : Output) (lines : List Line) (head : ImageHead) (cells : List ℕ) (read : Read image script lines head cells) where
  are_given : AreGiven image script lines head cells
  are_given = record {
    is_script = read.is_script;
    is_image = subst (λ (is_old : Bool). ReadsImage is_old image.before image.after head cells) read.new read.is_image;
  }

  pub run_cut_off : RunsImageFront head cells lines out.before out.after → WriteFailed out → IsRunCutOff image script out
  run_cut_off runs failed = inl (record { lines = lines; head = head; cells = cells; are_given = are_given; runs = runs; failed = failed })

  pub image_full : IsFull head cells → GaveLine out no_spare → IsBadImage image script out
  unfolding are_given
  image_full full line = record {
    lines = lines;
    is_script = read.is_script;
    refused = inr (record { head = head; cells = cells; is_image = are_given.is_image; full = full; line = line });
  }

  -- all lines were run
  module _ (given : List Event) (last : DieState) (runs : RunsImage head cells lines out.before given last) where
    all_run : AllRun image script out given
    all_run = record { lines = lines; head = head; cells = cells; are_given = are_given; last = last; runs = runs }

    pub not_handed_on : out.after ≡ given ++ failed ∷ [] → IsRunCutOff image script out
    not_handed_on stops = inr (given, all_run, stops)

    pub run_done : (image_out : Output) (left : List ℕ) → HasCells left last → out.after ≡ given ++ flushed ∷ [] → Took image_out (image_pieces head left) → IsRun image script out image_out
    unfolding all_run
    run_done image_out left has handed_on written = record { given = given; all = all_run; handed_on = handed_on; left = left; last_cells = has; written = written }

    pub image_cut_off : (image_out : Output) (left : List ℕ) → HasCells left last → out.after ≡ given ++ flushed ∷ [] → TookPart image_out (image_pieces head left)
        → IsImageCutOff image script out image_out
    unfolding all_run
    image_cut_off image_out left has handed_on written = record { given = given; all = all_run; handed_on = handed_on; left = left; last_cells = has; written = written }
