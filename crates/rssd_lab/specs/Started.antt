-- Runs on a device that was mounted first: `Start` says on which ones a run may begin, and `End` which dies it may leave.
use Rattle.std.specs.Prelude.{◌≡◌, List}
use Rattle.cell_die.specs.DieState.{DieState}
use Rattle.rssd_core.specs.DeviceValue.{Numbers, DeviceValue}
use Rattle.rssd_core.specs.Mount.{Mounts, EveryBlockLive}
use Rattle.rssd_io.specs.Event.{Event}
use Rattle.rssd_script.specs.declared.lines.Line.{Line}
use Rattle.lab_lines.specs.declared.lines.LinesEnd.{LinesEnd}
use Rattle.rssd_lab.specs.declared.stage.Stage.{Stage}
use Rattle.rssd_lab.specs.declared.telling.Telling.{Telling}
use Rattle.rssd_lab.specs.declared.status.NotRun.{NotRun}
use Rattle.rssd_lab.specs.declared.status.NotRun.TheVariants.{NoSpare, Stopped}
use Rattle.rssd_lab.specs.declared.status.Stop.{Stop}
use Rattle.rssd_lab.specs.declared.status.Stop.TheVariants.{OutOfMemory}
use Rattle.rssd_lab.specs.Stages.{StartOn, FullOn}
use Rattle.rssd_lab.specs.Runs.{Runs, StopsRun}

-- a run of lines on such a device, which leaves such a die
abbrev pub RunsFrom : {L : Type 0} → (L → Line → L → Type 0) → (L → L → Type 0) → Telling → (DeviceValue → Type 0) → (DieState → Type 0)
    → L → L → List Event → List Event → Type 0
RunsFrom gives ended telling Start End lines lines_after log log_after =
    (device : DeviceValue) × Start device × (runs : Runs gives ended telling device lines lines_after log log_after) × End runs.last.device.view.die

-- the same up to where it stopped, or nothing where there was no memory for the device
abbrev pub StopsFrom : {L : Type 0} → (L → Line → L → Type 0) → (L → L → Type 0) → (L → LinesEnd → L → Type 0) → Telling → (DeviceValue → Type 0) → Stop
    → L → L → List Event → List Event → Type 0
StopsFrom gives ended stops telling Start OutOfMemory lines lines_after log log_after = (lines_after ≡ lines) × (log_after ≡ log)
StopsFrom gives ended stops telling Start why lines lines_after log log_after =
    (device : DeviceValue) × Start device × StopsRun gives ended stops telling device why lines lines_after log log_after

-- so every block has a live record, and nothing was called
abbrev pub IsFullStart : {L : Type 0} → Type 0 → L → L → List Event → List Event → Type 0
IsFullStart Full lines lines_after log log_after = Full × (lines_after ≡ lines) × (log_after ≡ log)

-- why no device was mounted on this die
abbrev pub RefusesMount : Numbers → DieState → NotRun → Type 0
RefusesMount d die NoSpare = EveryBlockLive d.geometry die
RefusesMount d die (Stopped why) = why ≡ OutOfMemory

-- why no run on a device of this die came to its end
abbrev pub StopsOn : {L : Type 0} → (L → Line → L → Type 0) → (L → L → Type 0) → (L → LinesEnd → L → Type 0) → Telling → Numbers → DieState → NotRun
    → L → L → List Event → List Event → Type 0
StopsOn gives ended stops telling d die NoSpare lines lines_after log log_after = IsFullStart (EveryBlockLive d.geometry die) lines lines_after log log_after
StopsOn gives ended stops telling d die (Stopped why) lines lines_after log log_after =
    StopsFrom gives ended stops telling (Mounts d die) why lines lines_after log log_after

-- and on that of a stage
abbrev pub StopsStage : {L : Type 0} → (L → Line → L → Type 0) → (L → L → Type 0) → (L → LinesEnd → L → Type 0) → Telling → Stage → NotRun
    → L → L → List Event → List Event → Type 0
StopsStage gives ended stops telling stage NoSpare lines lines_after log log_after = IsFullStart (FullOn stage) lines lines_after log log_after
StopsStage gives ended stops telling stage (Stopped why) lines lines_after log log_after =
    StopsFrom gives ended stops telling (StartOn stage) why lines lines_after log log_after
