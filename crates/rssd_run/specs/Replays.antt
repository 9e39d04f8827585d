-- What a replay of lines runs on, and what it gives: a run of the lines that begins at a blank die that is mounted first.
use Rattle.std.specs.Prelude.{◌≡◌, List, Some}
use Rattle.zero_count.specs.declared.Header.{Header}
use Rattle.cell_die.specs.DieState.{DieState}
use Rattle.mem_die.specs.MemState.{IsNew}
use Rattle.page_codec.specs.declared.place.Place.{Place}
use Rattle.page_codec.specs.Records.{header_in}
use Rattle.page_codec.specs.Sound.{IsSound}
use Rattle.die_image.specs.declared.head.ImageHead.{ImageHead}
use Rattle.die_image.specs.Image.{shape_of}
use Rattle.rssd_core.specs.DeviceValue.{DeviceValue}
use Rattle.rssd_core.specs.Mount.{Mounts}
use Rattle.rssd_io.specs.Event.{Event as Act}
use Rattle.rssd_script.specs.declared.lines.Line.{Line}
use Rattle.rssd_run.specs.ArrayWithCuts.{On}
use Rattle.rssd_run.specs.View.{View}
use Rattle.rssd_run.specs.Run.{RunOf, RunCutOff}
use Rattle.rssd_run.specs.Heads.{numbers_named, zero_sectors}

-- The first view of a replay: a device was mounted on a die with no charged cell, with power and nothing armed. No header
-- stands there, its cells are sound, and all sectors are zeros.
pub record IsBlankStart (head : ImageHead) (view : View) : Type 0 where
  pub die : DieState
  pub blank : IsNew (shape_of head) die
  pub device : DeviceValue
  pub mounts : Mounts (numbers_named head) die device
  pub same : view.device ≡ device.view
  pub zeros : view.array ≡ On (zero_sectors head)
  pub no_header : (place : Place) (header : Header) → header_in (numbers_named head).geometry view.device.die.cells place ≡ Some header → ⊥
  pub sound : IsSound (numbers_named head).geometry view.device.die.cells

-- a run of these lines from such a view, and the texts of its replies were given
pub record Replays (head : ImageHead) (lines : List Line) (log log_after : List Act) : Type 0 where
  pub before : View
  pub start : IsBlankStart head before
  pub after : View
  pub run : RunOf (numbers_named head) before lines after log log_after

-- a run of the first of these lines, and the texts of its replies were given, but of the last one's a front only
pub record ReplaysFront (head : ImageHead) (lines : List Line) (log log_after : List Act) : Type 0 where
  pub before : View
  pub start : IsBlankStart head before
  pub after : View
  pub run : RunCutOff (numbers_named head) before lines after log log_after
