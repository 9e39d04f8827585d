-- The disk of a device: the bytes of its sectors, one after another.
use Rattle.std.specs.Prelude.{◌≡◌, ℕ, ◌+◌, ◌*◌, ◌%◌, ◌^◌, ◌<◌, ◌≤◌, List}
use Rattle.rssd_core.specs.DeviceValue.{Numbers, DeviceView, rows_of}
use Rattle.rssd_disk.specs.declared.part.Part.{Part}
use Rattle.rssd_disk.specs.Bytes.{joined}

-- its bytes
abbrev pub disk : Numbers → DeviceView → List ℕ
disk d view = joined d.geometry.sector_bytes d.geometry.sectors (rows_of d view)

-- how many there are
abbrev pub disk_size : Numbers → ℕ
disk_size d = d.geometry.sectors * d.geometry.sector_bytes

-- the sizes of sectors that are served, and how many there may be
pub record IsDisk (d : Numbers) : Type 0 where
  pub some : 1 ≤ d.geometry.sector_bytes
  pub few : d.geometry.sector_bytes ≤ 512
  pub small : d.geometry.sectors < 2 ^ 32

-- the bytes of a part lie in its sector
pub record IsPart (d : Numbers) (part : Part) : Type 0 where
  pub sector : part.sector < d.geometry.sectors
  pub within : part.start + part.count ≤ d.geometry.sector_bytes

-- where the first byte of a part lies on the disk
abbrev pub place_of : Numbers → Part → ℕ
place_of d part = part.sector * d.geometry.sector_bytes + part.start

-- A part is next, of so many bytes from a place on, of which some are done: it begins behind those, and ends with its sector or with
-- the bytes.
pub record IsNext (d : Numbers) (place count done : ℕ) (part : Part) : Type 0 where
  pub fits : IsPart d part
  pub begins : place_of d part ≡ place + done
  pub some : 0 < part.count
  pub within : done + part.count ≤ count
  pub to_end : done + part.count < count → (place + (done + part.count)) % d.geometry.sector_bytes ≡ 0
