-- How a run of any supply of lines ends, and a plain list as a supply.
use Rattle.std.specs.Prelude.{◌≡◌, List, [], ◌∷◌}
use Rattle.cell_die.specs.DieState.{DieState}
use Rattle.rssd_core.specs.DeviceValue.{DeviceValue}
use Rattle.rssd_io.specs.Event.{Event}
use Rattle.rssd_script.specs.declared.lines.Line.{Line}
use Rattle.lab_lines.specs.declared.lines.LinesEnd.{LinesEnd}
use Rattle.rssd_lab.specs.declared.telling.Telling.{Telling}
use Rattle.rssd_lab.specs.declared.status.Stop.{Stop}
use Rattle.rssd_lab.specs.declared.status.Halt.{Halt}
use Rattle.rssd_lab.specs.declared.status.Halt.TheVariants.{NoSpare, Ended}
use Rattle.rssd_lab.specs.declared.stage.Stage.{Stage}
use Rattle.rssd_lab.specs.Stages.{StartOn, FullOn}
use Rattle.rssd_lab.specs.Started.{RunsFrom, StopsFrom, IsFullStart}
use Rattle.rssd_lab.specs.Top.{SaysStopped}

-- Every block of the die has a live record; or the run stopped for some cause, and the call ends with its status.
abbrev pub RunHalts : {L : Type 0} → (L → Line → L → Type 0) → (L → L → Type 0) → (L → LinesEnd → L → Type 0) → Telling → Stage → Halt
    → L → L → List Event → List Event → Type 0
RunHalts gives ended stops telling stage NoSpare lines lines_after log log_after = IsFullStart (FullOn stage) lines lines_after log log_after
RunHalts gives ended stops telling stage (Ended status) lines lines_after log log_after =
    (why : Stop) × (between : List Event) × StopsFrom gives ended stops telling (StartOn stage) why lines lines_after log between × SaysStopped why status between log_after

-- ---- a list

-- the first line of the list came
abbrev pub NextOf : List Line → Line → List Line → Type 0
NextOf old line new = old ≡ line ∷ new

-- no line of the list was left
abbrev pub NoneOf : List Line → List Line → Type 0
NoneOf old new = (old ≡ []) × (new ≡ [])

-- behind all lines of the list none came, whatever the cause
abbrev pub StopsBehind : List Line → LinesEnd → List Line → Type 0
StopsBehind old why new = (old ≡ []) × (new ≡ [])

-- these lines, and no others, were played on such a device and told, and such a die was left
abbrev pub PlaysList : Telling → (DeviceValue → Type 0) → (DieState → Type 0) → List Line → List Event → List Event → Type 0
PlaysList telling Start End lines log log_after = RunsFrom NextOf NoneOf telling Start End lines [] log log_after

-- the same with no table at the end: behind these lines it stopped for this cause, or at the last of them
abbrev pub StopsList : Telling → (DeviceValue → Type 0) → Stop → List Line → List Event → List Event → Type 0
StopsList telling Start why lines log log_after = StopsFrom NextOf NoneOf StopsBehind telling Start why lines [] log log_after
