-- What a line on a running device makes of it, for every view that it stands for.
use Rattle.std.specs.Prelude.{◌≡◌, ℕ, ◌<◌, ◌^◌, Bool, true, false, List}
use Rattle.rssd_script.specs.declared.lines.Line.{Line}
use Rattle.rssd_script.specs.declared.replies.Reply.{Reply}
use Rattle.rssd_core.specs.DeviceValue.{Numbers, DeviceValue, rows_of}
use Rattle.rssd_core.specs.Failures.{Tells, TellsPower}
use Rattle.rssd_core.specs.Outcomes.{TrueWhileRunning}
use Rattle.rssd_run.specs.ArrayWithCuts.{ArrayState, On}
use Rattle.rssd_run.specs.View.{View, IsOff, IsArrayOf, StandsFor}
use Rattle.cell_die.specs.DieState.{DieState}
use Rattle.rssd_core.specs.declared.device.MountError.{MountError}
use Rattle.rssd_core.specs.declared.device.MountError.TheVariants.{OutOfMemory, Shape as BadShape, DieFault, NoSpare as NoSpareError}
use Rattle.rssd_script.specs.declared.lines.Line.TheVariants.{Mount}
use Rattle.rssd_script.specs.declared.replies.Reply.TheVariants.{Done, Fault, NoSpare, NoMemory}
use Rattle.page_codec.specs.Geometry.{shape_of}
use Rattle.rssd_run.specs.Held.{Tallies, tallies_of, on, off, refused, Calm}
use Rattle.rssd_run.specs.Step.{IsStep, KeepsDie}

-- the array of a device that runs, and of one that is stopped
abbrev pub ArrayIs : Bool → List (List ℕ) → ArrayState → Type 0
ArrayIs false rows array = array ≡ On rows
ArrayIs true rows array = IsOff array × IsArrayOf rows array

-- what a session knows of its device between two lines
pub record IsKept (d : Numbers) (device : DeviceValue) : Type 0 where
  pub numbers : device.numbers ≡ d
  pub shape : device.view.die.shape ≡ shape_of d.geometry
  pub tells : Tells device.view.die
  pub power : device.stopped ≡ false → TellsPower device.view.die
  pub book : TrueWhileRunning d device

-- The die is kept whatever its cells. From each view that a running device stood for, the line and its reply are a step to one
-- that it stands for, over sound cells or with no cut armed.
pub record Steps (d : Numbers) (line : Line) (reply : Reply) (old new : DeviceValue) : Type 0 where
  pub kept : IsKept d new
  pub keeps : KeepsDie d old.view.die new.view.die
  pub step : Calm d old.view.die → (base : Tallies) → (array : ArrayState) × ArrayIs new.stopped (rows_of d new.view) array
      × IsStep d (record { line = line; reply = reply; before = on d base old; after = off base new array })

-- the reply to a mount that was refused so (a bad shape never comes)
abbrev pub refusal_reply : MountError → Reply
refusal_reply OutOfMemory = NoMemory
refusal_reply BadShape = NoMemory
refusal_reply DieFault = Fault
refusal_reply NoSpareError = NoSpare

-- a mount over this die, from any view with it
pub record MountDone (d : Numbers) (die : DieState) (new : DeviceValue) : Type 0 where
  pub kept : IsKept d new
  pub keeps : KeepsDie d die new.view.die
  pub running : new.stopped ≡ false
  pub step : (before : View) → before.device.die ≡ die → StandsFor d before → before.device.moved < 2 ^ 64
      → IsStep d (record { line = Mount; reply = Done; before = before; after = on d (tallies_of before.device) new })

-- a mount that was refused
pub record MountRefused (d : Numbers) (die new : DieState) (why : MountError) : Type 0 where
  pub tells : Tells new
  pub shape : new.shape ≡ die.shape
  pub keeps : KeepsDie d die new
  pub step : (before : View) → before.device.die ≡ die → StandsFor d before → before.device.first < 2 ^ 64 → before.device.second < 2 ^ 64 → before.device.declined < 2 ^ 64
      → before.device.moved < 2 ^ 64
      → IsStep d (record { line = Mount; reply = refusal_reply why; before = before; after = refused before new })
