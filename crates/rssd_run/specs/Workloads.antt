-- A workload that is stepped on a session, and what its sectors hold.
use Rattle.std.specs.Prelude.{◌≡◌, ℕ, ◌+◌, ◌/◌, ◌==◌, Bool, List, [], ◌∷◌, ◌++◌, length, sum, sum_by, count_by, not, codes, decimal}
use Rattle.std.specs.List.{list_any}
use Rattle.page_codec.specs.Sound.{IsSound}
use Rattle.rssd_script.specs.declared.lines.Line.{Line}
use Rattle.rssd_script.specs.declared.lines.Line.TheVariants.{Trim, Idle}
use Rattle.rssd_core.specs.DeviceValue.{Numbers}
use Rattle.rssd_core.specs.Failures.{cut_of, read_failure_of}
use Rattle.rssd_run.specs.ArrayWithCuts.{On}
use Rattle.rssd_run.specs.View.{View, Event, IsOn}
use Rattle.rssd_run.specs.Run.{IsRun, lines_of}
use Rattle.rssd_run.specs.Shows.{SessionValue, Shows, HasNumbers}

-- how many words a line of a workload draws: a trim its kind and its sector, an idle line its kind, a write also its bytes
abbrev pub words_of : ℕ → Line → ℕ
words_of sector_bytes (Trim sector) = 2
words_of sector_bytes (Idle n) = 1
words_of sector_bytes line = 2 + sector_bytes / 8

-- The session is on and stands for this view, whose cells are sound, and no failure is armed.
pub record IsCalmAt (d : Numbers) (session : SessionValue) (view : View) : Type 0 where
  pub numbers : HasNumbers d session.holding
  pub shows : Shows d session view
  pub on : IsOn view.array
  pub sound : IsSound d.geometry view.device.die.cells
  pub no_cut : cut_of view.device.die ≡ 0
  pub no_read_failure : read_failure_of view.device.die ≡ 0

-- a run of these lines from one view to another
pub record RunsLines (d : Numbers) (before : View) (lines : List Line) (after : View) : Type 0 where
  pub events : List Event
  pub run : IsRun d before events after
  pub of_lines : lines_of events ≡ lines

-- From each view that a calm session stood for, a run of these lines leads to one that it stands for, calm again.
abbrev pub StepsLines : Numbers → List Line → SessionValue → SessionValue → Type 0
StepsLines d lines old new = (before : View) → IsCalmAt d old before → (after : View) × IsCalmAt d new after × RunsLines d before lines after

-- a calm session whose array has these rows
pub record HasRows (d : Numbers) (session : SessionValue) (rows : List (List ℕ)) : Type 0 where
  pub view : View
  pub calm : IsCalmAt d session view
  pub on : view.array ≡ On rows
  pub as_many : length rows ≡ d.geometry.sectors

-- some byte of a row is not zero
abbrev pub is_held : List ℕ → Bool
is_held row = list_any (λ byte. not (byte == 0)) row

-- how many sectors are not all zeros
abbrev pub held_count : List (List ℕ) → ℕ
held_count rows = count_by is_held rows

-- the sum of all bytes of all sectors
abbrev pub byte_sum : List (List ℕ) → ℕ
byte_sum rows = sum_by sum rows

-- `held a sum b` and its line feed
abbrev pub held_line : ℕ → ℕ → List ℕ
held_line count total = codes "held " ++ decimal count ++ codes " sum " ++ decimal total ++ 10 ∷ []
