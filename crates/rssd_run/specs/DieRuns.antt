-- A run of lines on a die that is mounted first.
use Rattle.std.specs.Prelude.{◌≡◌, ℕ, List}
use Rattle.cell_die.specs.DieState.{DieState}
use Rattle.cell_die.specs.Calls.{IsQuiet}
use Rattle.page_codec.specs.Sectors.{stored}
use Rattle.die_image.specs.declared.head.ImageHead.{ImageHead}
use Rattle.die_image.specs.Image.{shape_of}
use Rattle.rssd_core.specs.DeviceValue.{Numbers, DeviceValue}
use Rattle.rssd_core.specs.Mount.{Mounts}
use Rattle.rssd_io.specs.Event.{Event as Act, Grows}
use Rattle.rssd_script.specs.declared.lines.Line.{Line}
use Rattle.rssd_run.specs.ArrayWithCuts.{On}
use Rattle.rssd_run.specs.View.{View}
use Rattle.rssd_run.specs.Run.{RunOf, RunCutOff, CalmFor}
use Rattle.rssd_run.specs.Shows.{SessionValue, Shows, HasNumbers, HasDie, Starts}
use Rattle.rssd_run.specs.Exchanges.{AnswersOn, AnswersFrontOn}
use Rattle.rssd_run.specs.Heads.{numbers_named}
use Rattle.rssd_run.specs.Step.{KeepsDie}

-- a die of the head's shape, with power and nothing armed
pub record IsReady (head : ImageHead) (die : DieState) : Type 0 where
  pub shape : die.shape ≡ shape_of head
  pub quiet : IsQuiet die

-- the sectors that the cells of a head's die stand for
abbrev pub sectors_on : ImageHead → DieState → List (List ℕ)
sectors_on head die = stored (numbers_named head).geometry (numbers_named head).meaning.decoding die.cells

-- The first view of a run: a device was mounted on this die, and the array's rows are the sectors that its cells stand for.
pub record IsStart (head : ImageHead) (die : DieState) (view : View) : Type 0 where
  pub device : DeviceValue
  pub mounts : Mounts (numbers_named head) die device
  pub same : view.device ≡ device.view
  pub rows : view.array ≡ On (sectors_on head die)

-- a session that stands for such a view
pub record StartsOn (head : ImageHead) (die : DieState) (session : SessionValue) : Type 0 where
  pub view : View
  pub start : IsStart head die view
  pub starts : Starts (numbers_named head) die session
  pub shows : Shows (numbers_named head) session view
  pub numbers : HasNumbers (numbers_named head) session.holding
  pub mounted : DieState
  pub has : HasDie mounted session.holding
  pub keeps : KeepsDie (numbers_named head) die mounted

-- a run of these lines from a view to one with this die, and the texts of its replies were given
pub record RunsTo (d : Numbers) (before : View) (lines : List Line) (log log_after : List Act) (last : DieState) : Type 0 where
  pub after : View
  pub die : after.device.die ≡ last
  pub run : RunOf d before lines after log log_after

-- The lines were run on a die that was mounted first, and this die was left. Whatever the cells, no charge fell between erases, no
-- pad cell was charged, and each line had one reply, which is an answer of the device; over sound cells, or where no line is `cut`,
-- the lines are a run.
pub record RunsOn (head : ImageHead) (die : DieState) (lines : List Line) (log log_after : List Act) (last : DieState) : Type 0 where
  pub shape : last.shape ≡ shape_of head
  pub grew : Grows log log_after
  pub keeps : KeepsDie (numbers_named head) die last
  pub answers : AnswersOn (numbers_named head) die lines log log_after last
  pub before : View
  pub start : IsStart head die before
  pub run : CalmFor (numbers_named head) die lines → RunsTo (numbers_named head) before lines log log_after last

-- a run of the first lines from a view, and the texts of its replies were given, but of the last one's a front only
pub record RunsInPart (d : Numbers) (before : View) (lines : List Line) (log log_after : List Act) : Type 0 where
  pub after : View
  pub run : RunCutOff d before lines after log log_after

-- the same of the first lines, up to the one whose reply was not given whole
pub record RunsFrontOn (head : ImageHead) (die : DieState) (lines : List Line) (log log_after : List Act) : Type 0 where
  pub answers : AnswersFrontOn (numbers_named head) die lines log log_after
  pub before : View
  pub start : IsStart head die before
  pub run : CalmFor (numbers_named head) die lines → RunsInPart (numbers_named head) before lines log log_after
