-- The dies of a laboratory, and the devices that are mounted on them.
use Rattle.std.specs.Prelude.{ℕ, List, false}
use Rattle.cell_die.specs.DieState.{DieState}
use Rattle.mem_die.specs.MemState.{IsNew, IsMade}
use Rattle.die_image.specs.declared.head.ImageHead.{ImageHead}
use Rattle.die_image.specs.Image.{shape_of}
use Rattle.rssd_core.specs.DeviceValue.{DeviceValue}
use Rattle.rssd_core.specs.Mount.{Mounts}
use Rattle.rssd_io.specs.Event.{Event}
use Rattle.rssd_run.specs.Heads.{numbers_named}
use Rattle.rssd_run.specs.PlayRuns.{IsBlankWorn, IsBlankPair}
use Rattle.rssd_run.specs.ReadImage.{ReadsImage}
use Rattle.lab_words.specs.declared.asked.AskedDie.{AskedDie}
use Rattle.lab_words.specs.declared.asked.DieKind.{DieKind}
use Rattle.lab_words.specs.declared.asked.DieKind.TheVariants.{Plain, Worn, Pair}

-- a die of this head and kind with no charged cell
abbrev pub IsBlankOf : ImageHead → DieKind → DieState → Type 0
IsBlankOf head Plain die = IsNew (shape_of head) die
IsBlankOf head (Worn reserve bad) die = IsBlankWorn head reserve bad die
IsBlankOf head Pair die = IsBlankPair head die

-- a device that was mounted on such a die
pub record IsBlankDevice (asked : AskedDie) (device : DeviceValue) : Type 0 where
  pub die : DieState
  pub blank : IsBlankOf asked.head asked.kind die
  pub mounts : Mounts (numbers_named asked.head) die device

-- all of an image was taken, and this is its head, and a new die of its cells
pub record IsReadyOf (old new : List Event) (head : ImageHead) (die : DieState) : Type 0 where
  pub cells : List ℕ
  pub reads : ReadsImage false old new head cells
  pub made : IsMade (shape_of head) cells die
