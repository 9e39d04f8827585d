-- What a disk over a device holds: a mounted device, or a die with its scheme.
use Rattle.std.specs.Prelude.{◌≡◌, ℕ, ◌*◌, Bool, List, Option, None, Some, IsSome, true, false}
use Rattle.cell_die.specs.DieState.{DieState, Failures}
use Rattle.nbd_wire.specs.declared.reply.Errno.{Errno}
use Rattle.nbd_wire.specs.declared.reply.Errno.TheVariants.{InputOutput}
use Rattle.nbd_wire.specs.declared.request.Request.{Request}
use Rattle.striped.specs.Meaning.{Meaning}
use Rattle.rssd_core.specs.declared.device.Plan.{Plan}
use Rattle.rssd_core.specs.DeviceValue.{Numbers, DeviceValue}
use Rattle.rssd_core.specs.Mount.{Mounts, numbers_of}
use Rattle.rssd_disk.specs.Answers.{Answers}
use Rattle.rssd_disk.specs.Disk.{IsDisk}

-- the die that a disk holds, mounted or not, and what its scheme makes of cells
pub record Holding : Type 0 where
  pub die : DieState
  pub meaning : Meaning

-- a die that is mounted
abbrev pub holding_of : DeviceValue → Holding
holding_of device = record { die = device.view.die; meaning = device.numbers.meaning }

abbrev pub held_by : {D C F : Type 0} → (D → DieState) → (C → Meaning) → (F → DeviceValue) → Option F → Option (D × C) → Option Holding
held_by state meaning device (Some ftl) closed = Some (holding_of (device ftl))
held_by state meaning device None (Some held) = Some (record { die = state held.0; meaning = meaning held.1 })
held_by state meaning device None None = None

-- the numbers of a device that is mounted there
abbrev pub numbers_held : Plan → Holding → Numbers
numbers_held plan h = numbers_of h.die.shape h.meaning plan

-- the same cells, and what they mean
pub record SameHolding (old new : Holding) : Type 0 where
  pub shape : new.die.shape ≡ old.die.shape
  pub cells : new.die.cells ≡ old.die.cells
  pub meaning : new.meaning ≡ old.meaning

abbrev pub SameHeld : Option Holding → Option Holding → Type 0
SameHeld (Some old) (Some new) = SameHolding old new
SameHeld _ _ = ⊥

-- a device whose sizes are served is mounted, or a die is there to be mounted
abbrev pub IsHeld : {F P : Type 0} → (F → DeviceValue) → Option F → Option P → Type 0
IsHeld device None closed = IsSome closed
IsHeld device (Some ftl) closed = IsDisk (device ftl).numbers

-- a device has the sizes of its die, its scheme and its plan
abbrev pub IsPlanned : {F : Type 0} → (F → DeviceValue) → Plan → Option F → Type 0
IsPlanned device plan (Some ftl) = (device ftl).numbers ≡ numbers_held plan (holding_of (device ftl))
IsPlanned device plan None = Unit {0}

-- so many bytes are told: those of the plan's sectors
abbrev pub IsTold : Plan → ℕ → Option Holding → Type 0
IsTold plan size (Some h) = size ≡ plan.sectors * h.meaning.sector_bytes
IsTold plan size None = ⊥

-- the device runs
abbrev pub Runs : {F : Type 0} → (F → DeviceValue) → Option F → Type 0
Runs device None = ⊥
Runs device (Some ftl) = (device ftl).stopped ≡ false

-- the same, and a device that is mounted runs
abbrev pub IsReady : {F P : Type 0} → (F → DeviceValue) → Option F → Option P → Type 0
IsReady device None closed = IsSome closed
IsReady device (Some ftl) closed = (IsDisk (device ftl).numbers) × ((device ftl).stopped ≡ false)

-- the die and the scheme are those of the device, or else those that are there
abbrev pub Gives : {D C F : Type 0} → (D → DieState) → (C → Meaning) → (F → DeviceValue) → Option F → Option (D × C) → D × C → Type 0
Gives state meaning device (Some ftl) closed held = (state held.0 ≡ (device ftl).view.die) × (meaning held.1 ≡ (device ftl).numbers.meaning)
Gives state meaning device None closed held = closed ≡ Some held

-- a device that runs goes on, and the die of one that is stopped is mounted
pub record GoesOn (plan : Plan) (old now : DeviceValue) : Type 0 where
  pub same : old.stopped ≡ false → now ≡ old
  pub mounted : old.stopped ≡ true → Mounts (numbers_of old.view.die.shape old.numbers.meaning plan) old.view.die now

-- where the device that a request is asked of comes from
abbrev pub ComesFrom : {D C F : Type 0} → (D → DieState) → (C → Meaning) → (F → DeviceValue) → Plan → Option F → Option (D × C) → DeviceValue → Type 0
ComesFrom state meaning device plan (Some ftl) closed now = GoesOn plan (device ftl) now
ComesFrom state meaning device plan None (Some held) now = Mounts (numbers_of (state held.0).shape (meaning held.1) plan) (state held.0) now
ComesFrom state meaning device plan None None now = ⊥

-- a request was asked of a device that runs, and left this one
pub record AskedOf (Comes : DeviceValue → Type 0) (r : Request) (before after : List ℕ) (reply : Errno) (new : DeviceValue) : Type 0 where
  pub device : DeviceValue
  pub comes : Comes device
  pub sizes : IsDisk device.numbers
  pub running : device.stopped ≡ false
  pub answered : Answers device.numbers r before after device new reply

-- where no mount succeeds nothing is asked, and the reply is that the device failed
pub record AsksNone (old new : Option Holding) (before after : List ℕ) (reply : Errno) : Type 0 where
  pub reply_is : reply ≡ InputOutput
  pub data_are : after ≡ before
  pub same : SameHeld old new

abbrev pub AnswersHeld : {D C F : Type 0} → (D → DieState) → (C → Meaning) → (F → DeviceValue) → Plan → Option F → Option (D × C) → Option F → Option (D × C) → Request → List ℕ → List ℕ → Errno
    → Type 0
AnswersHeld state meaning device plan mounted closed None left r before after reply = AsksNone (held_by state meaning device mounted closed) (held_by state meaning device None left) before after reply
AnswersHeld state meaning device plan mounted closed (Some ftl) left r before after reply = AskedOf (ComesFrom state meaning device plan mounted closed) r before after reply (device ftl)

-- ---- power

-- whether there is power, where a die tells it
abbrev pub power_told : Option Failures → Option Bool
power_told None = None
power_told (Some failures) = Some failures.powered

abbrev pub power_held : {D C F : Type 0} → (D → DieState) → (F → DeviceValue) → Option F → Option (D × C) → Option Bool
power_held state device (Some ftl) closed = power_told (device ftl).view.die.failures
power_held state device None (Some held) = power_told (state held.0).failures
power_held state device None None = None
