-- The parts of a mount: the limits by what they are of, the memory, and the refusals of the scan.
use Rattle.std.specs.Prelude.{◌≡◌, ℕ, ◌+◌, ◌*◌, ◌-◌, ◌<◌, ◌≤◌}
use Rattle.cell_die.specs.declared.shape.Shape.{Shape}
use Rattle.striped.specs.Meaning.{Meaning}
use Rattle.page_codec.specs.Sizes.{Sizes}
use Rattle.mount_scan.specs.declared.scan.ScanRefusal.{ScanRefusal}
use Rattle.mount_scan.specs.declared.scan.ScanRefusal.TheVariants.{DieFault, NoSpare}
use Rattle.mount_scan.specs.New.{IsNew}
use Rattle.rssd_core.specs.declared.device.Plan.{Plan}
use Rattle.rssd_core.specs.declared.device.MountError.{MountError}
use Rattle.rssd_core.specs.declared.device.MountError.TheVariants as errors
use Rattle.rssd_core.specs.declared.mounting.Room.{Room}

-- the limits of a die
pub record HasDieLimits (shape : Shape) : Type 0 where
  pub two_blocks : 2 ≤ shape.blocks
  pub few_blocks : shape.blocks ≤ 1024
  pub two_pages : 2 ≤ shape.pages
  pub few_pages : shape.pages ≤ 128
  pub few_bytes : shape.blocks * shape.pages * (shape.main_bytes + shape.spare_bytes) ≤ 67108864

-- the limits of a plan
pub record HasPlanLimits (shape : Shape) (plan : Plan) : Type 0 where
  pub some_sectors : 1 ≤ plan.sectors
  pub few_sectors : plan.sectors < (shape.blocks - 1) * shape.pages
  pub reuse : plan.reuse_max ≤ shape.blocks

-- the sizes that buffers for a scheme serve
abbrev pub sizes_of : Meaning → Sizes
sizes_of meaning = record {
  page_bytes = meaning.page_bytes;
  span = meaning.span;
  sector_bytes = meaning.sector_bytes;
  generations = meaning.generations;
}

-- the buffers are of the scheme's sizes, the tables are new, and there is room for the moves of a block
pub record HasRoom (shape : Shape) (meaning : Meaning) (sectors : ℕ) (room : Room) : Type 0 where
  pub work : room.work ≡ sizes_of meaning
  pub tables : IsNew shape sectors meaning.span meaning.generations room.tables
  pub moves : room.moves ≡ shape.pages

abbrev pub why_refused : ScanRefusal → MountError
why_refused DieFault = errors.DieFault
why_refused NoSpare = errors.NoSpare
