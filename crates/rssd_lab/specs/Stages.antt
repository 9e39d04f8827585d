-- Where lines are played.
use Rattle.std.specs.Prelude.{◌≡◌, Option, Some}
use Rattle.cell_die.specs.DieState.{DieState}
use Rattle.mem_die.specs.MemState.{mem_state}
use Rattle.mem_die.specs.declared.mem.MemDie.{MemDie}
use Rattle.die_image.specs.declared.head.ImageHead.{ImageHead}
use Rattle.rssd_core.specs.DeviceValue.{DeviceValue}
use Rattle.rssd_core.specs.Mount.{Mounts, EveryBlockLive}
use Rattle.rssd_run.specs.Heads.{numbers_named}
use Rattle.lab_words.specs.Orders.{IsDieWithin}
use Rattle.rssd_lab.specs.declared.stage.Stage.{Stage}
use Rattle.rssd_lab.specs.declared.stage.Stage.TheVariants.{Blank, Image}
use Rattle.rssd_lab.specs.Dies.{IsBlankDevice}

-- whatever die is left
abbrev pub AnyDie : DieState → Type 0
AnyDie die = Unit {0}

abbrev pub head_on : Stage → ImageHead
head_on (Blank asked) = asked.head
head_on (Image ready) = ready.head

abbrev pub IsStageWithin : Stage → Type 0
IsStageWithin (Blank asked) = IsDieWithin asked
IsStageWithin (Image ready) = Unit {0}

-- a device on which a run of lines begins
abbrev pub StartOn : Stage → DeviceValue → Type 0
StartOn (Blank asked) device = IsBlankDevice asked device
StartOn (Image ready) device = Mounts (numbers_named ready.head) (mem_state ready.die) device

-- the die that it leaves: that of an image comes back
abbrev pub EndOn : Stage → Option MemDie → DieState → Type 0
EndOn (Blank asked) left die = AnyDie die
EndOn (Image ready) left die = (last : MemDie) × (left ≡ Some last) × (mem_state last ≡ die)

-- every block has a live record, as on no blank die
abbrev pub FullOn : Stage → Type 0
FullOn (Blank asked) = ⊥
FullOn (Image ready) = EveryBlockLive (numbers_named ready.head).geometry (mem_state ready.die)
