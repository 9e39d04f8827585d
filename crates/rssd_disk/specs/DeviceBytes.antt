-- The bytes of a disk over a device, which its cells stand for.
use Rattle.std.specs.Prelude.{ℕ, List, [], Option, None, Some}
use Rattle.page_codec.specs.Sectors.{stored}
use Rattle.page_codec.specs.Sound.{IsSound}
use Rattle.rssd_core.specs.declared.device.Plan.{Plan}
use Rattle.rssd_core.specs.DeviceValue.{Numbers}
use Rattle.rssd_disk.specs.Bytes.{joined}
use Rattle.rssd_disk.specs.Held.{Holding, numbers_held}

-- the bytes that cells stand for: those of the sectors, one after another
abbrev pub bytes_of_cells : Numbers → List (List ℕ) → List ℕ
bytes_of_cells d cells = joined d.geometry.sector_bytes d.geometry.sectors (stored d.geometry d.meaning.decoding cells)

abbrev pub bytes_on : Plan → Option Holding → List ℕ
bytes_on plan (Some h) = bytes_of_cells (numbers_held plan h) h.die.cells
bytes_on plan None = []

-- the cells are sound
abbrev pub HasSound : Plan → Option Holding → Type 0
HasSound plan (Some h) = IsSound (numbers_held plan h).geometry h.die.cells
HasSound plan None = ⊥

-- the bytes of a sector
abbrev pub sector_bytes_on : Option Holding → ℕ
sector_bytes_on (Some h) = h.meaning.sector_bytes
sector_bytes_on None = 0
