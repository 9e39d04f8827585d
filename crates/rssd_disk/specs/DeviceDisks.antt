-- A disk over a device: what it needs, how it answers, and the bytes that it has.
use Rattle.std.specs.Prelude.{◌≡◌, ℕ, Bool, List, Option}
use Rattle.cell_die.specs.DieState.{DieState}
use Rattle.nbd_wire.specs.declared.reply.Errno.{Errno}
use Rattle.nbd_wire.specs.declared.request.Request.{Request}
use Rattle.striped.specs.Meaning.{Meaning}
use Rattle.rssd_core.specs.DeviceValue.{DeviceValue}
use Rattle.rssd_disk.specs.declared.device_disk.DeviceDisk.{DeviceDisk}
use Rattle.rssd_disk.specs.DeviceBytes.{bytes_on, HasSound, sector_bytes_on}
use Rattle.rssd_disk.specs.Held.{Holding, held_by, power_held, IsHeld, IsPlanned, IsTold, AnswersHeld}

-- what it holds
abbrev pub holding : {D C F : Type 0} → (D → DieState) → (C → Meaning) → (F → DeviceValue) → DeviceDisk D C F → Option Holding
holding state meaning device disk = held_by state meaning device disk.mounted disk.closed

-- It can answer: a device is mounted or can be, with the sizes of the plan, and so many bytes are told.
pub record IsDeviceDisk {D C F : Type 0} (state : D → DieState) (meaning : C → Meaning) (device : F → DeviceValue) (disk : DeviceDisk D C F) : Type 0 where
  pub held : IsHeld device disk.mounted disk.closed
  pub planned : IsPlanned device disk.plan disk.mounted
  pub told : IsTold disk.plan disk.size (held_by state meaning device disk.mounted disk.closed)

-- it answered a request, and has the same plan and size
pub record DeviceAnswers {D C F : Type 0} (state : D → DieState) (meaning : C → Meaning) (device : F → DeviceValue) (old new : DeviceDisk D C F) (r : Request) (before after : List ℕ)
    (reply : Errno) : Type 0 where
  pub plan : new.plan ≡ old.plan
  pub size : new.size ≡ old.size
  pub answered : AnswersHeld state meaning device old.plan old.mounted old.closed new.mounted new.closed r before after reply

-- its bytes
abbrev pub disk_bytes : {D C F : Type 0} → (D → DieState) → (C → Meaning) → (F → DeviceValue) → DeviceDisk D C F → List ℕ
disk_bytes state meaning device disk = bytes_on disk.plan (holding state meaning device disk)

-- its cells are sound
abbrev pub HasSoundCells : {D C F : Type 0} → (D → DieState) → (C → Meaning) → (F → DeviceValue) → DeviceDisk D C F → Type 0
HasSoundCells state meaning device disk = HasSound disk.plan (holding state meaning device disk)

-- the bytes of its sectors
abbrev pub sector_bytes_of : {D C F : Type 0} → (D → DieState) → (C → Meaning) → (F → DeviceValue) → DeviceDisk D C F → ℕ
sector_bytes_of state meaning device disk = sector_bytes_on (holding state meaning device disk)

-- whether its die has power, where that tells it
abbrev pub power_of : {D C F : Type 0} → (D → DieState) → (F → DeviceValue) → DeviceDisk D C F → Option Bool
power_of state device disk = power_held state device disk.mounted disk.closed
