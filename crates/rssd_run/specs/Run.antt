-- Whole runs, and what they give to the output: each reply's text is one piece.
use Rattle.std.specs.Prelude.{◌≡◌, ◌⊎◌, ℕ, ◌+◌, Bool, true, false, List, [], ◌∷◌, ◌++◌, All, map, take, length}
use Rattle.cell_die.specs.DieState.{DieState}
use Rattle.page_codec.specs.Sound.{IsSound}
use Rattle.rssd_core.specs.DeviceValue.{Numbers}
use Rattle.rssd_core.specs.Failures.{cut_of}
use Rattle.rssd_io.specs.Event.{Event as Act, moved, failed}
use Rattle.rssd_io.specs.Pieces.{Gives, all_given}
use Rattle.rssd_script.specs.declared.lines.Line.{Line}
use Rattle.rssd_script.specs.declared.lines.Line.TheVariants.{Cut}
use Rattle.rssd_script.specs.Replies.{reply_line}
use Rattle.rssd_run.specs.View.{View, Event}
use Rattle.rssd_run.specs.Step.{IsStep}
use Rattle.rssd_run.specs.Shows.{SessionValue, Shows}

-- a run from one view to another: each step begins where the one before ended
unfoldable pub IsRun : Numbers → View → List Event → View → Type 0
IsRun d before [] after = after ≡ before
IsRun d before (e ∷ events) after = (e.before ≡ before) × IsStep d e × IsRun d e.after events after

-- the lines of a run
abbrev pub lines_of : List Event → List Line
lines_of events = map (λ e. e.line) events

-- the texts of a run's replies, each one piece
abbrev pub pieces_of : List Event → List (List ℕ)
pieces_of events = map (λ e. reply_line e.reply) events

-- A run of these lines from one view to another, and the text of each reply was given in one piece.
pub record RunOf (d : Numbers) (before : View) (lines : List Line) (after : View) (log log_after : List Act) : Type 0 where
  pub events : List Event
  pub run : IsRun d before events after
  pub of_lines : lines_of events ≡ lines
  pub given : Gives (pieces_of events) log log_after

-- A run of the first of these lines, and the text of each reply was given in one piece, but of the last reply's text a front only, and the sink failed.
pub record RunCutOff (d : Numbers) (before : View) (lines : List Line) (after : View) (log log_after : List Act) : Type 0 where
  pub events : List Event
  pub last : Event
  pub run : IsRun d before (events ++ last ∷ []) after
  pub of_lines : lines_of (events ++ last ∷ []) ≡ take (length events + 1) lines
  pub front : ℕ
  pub given : log_after ≡ log ++ (all_given (pieces_of events) ++ moved (take front (reply_line last.reply)) ∷ failed ∷ [])

abbrev pub is_cut : Line → Bool
is_cut (Cut n torn) = true
is_cut _ = false

-- lines on a die whose cells are sound; or on one with no cut armed, and none of the lines arms one
abbrev pub CalmFor : Numbers → DieState → List Line → Type 0
CalmFor d die lines = IsSound d.geometry die.cells ⊎ ((cut_of die ≡ 0) × All (λ line. is_cut line ≡ false) lines)

-- From each view that the session stood for, a run of these lines leads to one that it stands for, and its texts were given.
abbrev pub RunsSession : Numbers → List Line → SessionValue → SessionValue → List Act → List Act → Type 0
RunsSession d lines old new log log_after =
    (before : View) → Shows d old before → CalmFor d before.device.die lines → (after : View) × Shows d new after × RunOf d before lines after log log_after

-- The same up to the line whose text was not given whole.
abbrev pub CutsOffSession : Numbers → List Line → SessionValue → SessionValue → List Act → List Act → Type 0
CutsOffSession d lines old new log log_after =
    (before : View) → Shows d old before → CalmFor d before.device.die lines → (after : View) × Shows d new after × RunCutOff d before lines after log log_after
