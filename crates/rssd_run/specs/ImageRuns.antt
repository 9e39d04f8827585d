-- A run of lines on the die of an image.
use Rattle.std.specs.Prelude.{◌≡◌, ◌*◌, ℕ, List, length}
use Rattle.cell_die.specs.DieState.{DieState, page_count, page_bytes}
use Rattle.mem_die.specs.MemState.{IsMade}
use Rattle.mem_die.specs.Pages.{pages_of}
use Rattle.die_image.specs.declared.head.ImageHead.{ImageHead}
use Rattle.die_image.specs.Image.{shape_of}
use Rattle.rssd_core.specs.Mount.{EveryBlockLive}
use Rattle.rssd_io.specs.Event.{Event as Act}
use Rattle.rssd_script.specs.declared.lines.Line.{Line}
use Rattle.rssd_run.specs.Heads.{numbers_named}
use Rattle.rssd_run.specs.DieRuns.{RunsOn, RunsFrontOn}

-- these bytes are the cells of the die, page after page
pub record HasCells (bytes : List ℕ) (die : DieState) : Type 0 where
  pub whole : length bytes ≡ page_count die.shape * page_bytes die.shape
  pub cells : die.cells ≡ pages_of (page_bytes die.shape) (page_count die.shape) bytes

-- the lines were run on a new die of these cells, and left a die
pub record RunsImage (head : ImageHead) (cells : List ℕ) (lines : List Line) (log log_after : List Act) (last : DieState) : Type 0 where
  pub die : DieState
  pub made : IsMade (shape_of head) cells die
  pub runs : RunsOn head die lines log log_after last

-- the first of the lines were, up to the one whose reply was not given whole
pub record RunsImageFront (head : ImageHead) (cells : List ℕ) (lines : List Line) (log log_after : List Act) : Type 0 where
  pub die : DieState
  pub made : IsMade (shape_of head) cells die
  pub runs : RunsFrontOn head die lines log log_after

-- every block of a new die of these cells has a live record
pub record IsFull (head : ImageHead) (cells : List ℕ) : Type 0 where
  pub die : DieState
  pub made : IsMade (shape_of head) cells die
  pub full : EveryBlockLive (numbers_named head).geometry die
