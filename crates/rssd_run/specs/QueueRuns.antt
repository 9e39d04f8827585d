-- A script's lines through a queue to a blank die that is mounted first.
use Rattle.std.specs.Prelude.{◌≡◌, ◌+◌, List, [], length}
use Rattle.die_image.specs.declared.head.ImageHead.{ImageHead}
use Rattle.die_image.specs.Schemes.{row_of}
use Rattle.rssd_io.specs.Event.{Event as Io}
use Rattle.rssd_queue.specs.Waiting.{Waiting, empty}
use Rattle.rssd_script.specs.declared.lines.Line.{Line}
use Rattle.rssd_run.specs.View.{View}
use Rattle.rssd_run.specs.Heads.{numbers_named}
use Rattle.rssd_run.specs.Replays.{IsBlankStart}
use Rattle.rssd_run.specs.QueueActs.{Place, place, ActsTo, ActsCutOff}

-- all lines are left, the first has the tag 1, and nothing waits
abbrev pub first_place : ImageHead → List Line → Place
first_place head lines = place lines 1 (empty head.sectors (row_of head.scheme).sector_bytes)

-- acts from there until no line is left and nothing waits, and the texts of their replies were given
pub record Queues (head : ImageHead) (lines : List Line) (log log_after : List Io) : Type 0 where
  pub before : View
  pub start : IsBlankStart head before
  pub queue : Waiting
  pub none_waits : queue.commands ≡ []
  pub after : View
  pub acts : ActsTo (numbers_named head) (first_place head lines) before (place [] (length lines + 1) queue) after log log_after

-- acts from there, and of the last text a front only was given
pub record QueuesFront (head : ImageHead) (lines : List Line) (log log_after : List Io) : Type 0 where
  pub before : View
  pub start : IsBlankStart head before
  pub after : View
  pub acts : ActsCutOff (numbers_named head) (first_place head lines) before after log log_after
