-- What calls of a device leave of its disk, which read or put bytes.
use Rattle.std.specs.Prelude.{◌≡◌, ◌⊎◌, ℕ, ◌+◌, ◌%◌, ◌^◌, ◌<◌, ◌≤◌, false, List, length, take, slice_set}
use Rattle.cell_die.specs.Calls.{Kept}
use Rattle.cell_die.specs.Counts.{Rose}
use Rattle.page_codec.specs.Sound.{IsSound}
use Rattle.rssd_core.specs.DeviceValue.{Numbers, DeviceValue, rows_of}
use Rattle.rssd_disk.specs.Bytes.{put}
use Rattle.rssd_disk.specs.Disk.{disk}

-- after any calls, failed or not
pub record Keeps (d : Numbers) (old new : DeviceValue) : Type 0 where
  pub numbers : new.numbers ≡ old.numbers
  pub kept : Kept old.view.die new.view.die
  pub sound : IsSound d.geometry old.view.die.cells → IsSound d.geometry new.view.die.cells

-- why a call fails: a count of the die's faults rose, or the record numbers are spent
abbrev pub HasCause : DeviceValue → DeviceValue → Type 0
HasCause old new = (Rose old.view.die.read_faults new.view.die.read_faults) ⊎ ((Rose old.view.die.change_faults new.view.die.change_faults) ⊎ (2 ^ 62 ≤ new.view.seq))

-- the sectors are as they were, and the device runs
pub record Same (d : Numbers) (old new : DeviceValue) : Type 0 where
  pub keeps : Keeps d old new
  pub rows : rows_of d new.view ≡ rows_of d old.view
  pub running : new.stopped ≡ false

-- a read failed: the sectors are as they were, and the device runs
pub record ReadFails (d : Numbers) (old new : DeviceValue) : Type 0 where
  pub same : Same d old new
  pub cause : HasCause old new

-- a sector was replaced, and the device runs
pub record HasRow (d : Numbers) (sector : ℕ) (row : List ℕ) (old new : DeviceValue) : Type 0 where
  pub keeps : Keeps d old new
  pub rows : rows_of d new.view ≡ slice_set (rows_of d old.view) sector row
  pub running : new.stopped ≡ false

-- a sector was replaced or not
pub record RowFails (d : Numbers) (sector : ℕ) (row : List ℕ) (old new : DeviceValue) : Type 0 where
  pub keeps : Keeps d old new
  pub either : IsSound d.geometry old.view.die.cells → (rows_of d new.view ≡ rows_of d old.view) ⊎ (rows_of d new.view ≡ slice_set (rows_of d old.view) sector row)
  pub cause : HasCause old new

-- the bytes stand on the disk from a place on, and the device runs
pub record HasPut (d : Numbers) (place : ℕ) (bytes : List ℕ) (old new : DeviceValue) : Type 0 where
  pub keeps : Keeps d old new
  pub put : disk d new.view ≡ put place bytes (disk d old.view)
  pub running : new.stopped ≡ false

-- bytes of one sector were put or not
pub record PartFails (d : Numbers) (place : ℕ) (bytes : List ℕ) (old new : DeviceValue) : Type 0 where
  pub keeps : Keeps d old new
  pub either : IsSound d.geometry old.view.die.cells → (disk d new.view ≡ disk d old.view) ⊎ (disk d new.view ≡ put place bytes (disk d old.view))
  pub cause : HasCause old new

-- The first bytes were put, some, all or none: they end where a sector ends. So each sector is as it was or as it was to be.
pub record HasFront (d : Numbers) (place : ℕ) (bytes : List ℕ) (old new : DeviceValue) : Type 0 where
  pub n : ℕ
  pub within : n ≤ length bytes
  pub at_sector : 0 < n → n < length bytes → (place + n) % d.geometry.sector_bytes ≡ 0
  pub put : disk d new.view ≡ put place (take n bytes) (disk d old.view)

-- a call of the device failed, and a front of the bytes was put
pub record PutFails (d : Numbers) (place : ℕ) (bytes : List ℕ) (old new : DeviceValue) : Type 0 where
  pub keeps : Keeps d old new
  pub front : IsSound d.geometry old.view.die.cells → HasFront d place bytes old new
  pub cause : HasCause old new
