-- What a mount leaves.
use Rattle.std.specs.Prelude.{◌≡◌, ℕ, ◌+◌, ◌*◌, ◌-◌, ◌<◌, ◌≤◌, false}
use Rattle.cell_die.specs.declared.shape.Shape.{Shape}
use Rattle.cell_die.specs.DieState.{DieState}
use Rattle.cell_die.specs.Changes.{SameCells}
use Rattle.cell_die.specs.Calls.{Kept, Passed, ReadFailed}
use Rattle.striped.specs.Meaning.{Meaning}
use Rattle.block_state.specs.Book.{BookValue}
use Rattle.reuse_pool.specs.Recycling.{Recycles}
use Rattle.page_codec.specs.Geometry.{Geometry, page_count}
use Rattle.page_codec.specs.Sound.{live_count}
use Rattle.mount_scan.specs.Mounted.{IsMounted, IsMountedSeq}
use Rattle.rssd_core.specs.declared.device.Plan.{Plan}
use Rattle.rssd_core.specs.declared.device.MountError.{MountError}
use Rattle.rssd_core.specs.declared.device.MountError.TheVariants as errors
use Rattle.rssd_core.specs.DeviceValue.{Numbers, DeviceView, DeviceValue}
use Rattle.rssd_core.specs.Outcomes.{TrueWhileRunning}

-- the numbers of a device on such a die, with such a scheme and plan
abbrev pub numbers_of : Shape → Meaning → Plan → Numbers
numbers_of shape meaning plan = record {
  geometry = record {
    blocks = shape.blocks;
    pages = shape.pages;
    main_bytes = shape.main_bytes;
    generations = meaning.generations;
    span = meaning.span;
    sectors = plan.sectors;
    sector_bytes = meaning.sector_bytes;
  };
  meaning = meaning;
  reuse_max = plan.reuse_max;
}

-- the sizes of a scheme that are served
pub record IsServed (meaning : Meaning) : Type 0 where
  pub some_sector_bytes : 1 ≤ meaning.sector_bytes
  pub few_sector_bytes : meaning.sector_bytes ≤ 512
  pub some_page_bytes : 1 ≤ meaning.page_bytes
  pub few_page_bytes : meaning.page_bytes ≤ 1200
  pub some_span : 1 ≤ meaning.span
  pub small_span : meaning.span ≤ 2
  pub two_generations : 2 ≤ meaning.generations
  pub three_generations : meaning.generations ≤ 3

-- the limits of a device, and a scheme whose sizes are those of the die
pub record Fits (shape : Shape) (meaning : Meaning) (plan : Plan) : Type 0 where
  pub served : IsServed meaning
  pub two_blocks : 2 ≤ shape.blocks
  pub few_blocks : shape.blocks ≤ 1024
  pub two_pages : 2 ≤ shape.pages
  pub few_pages : shape.pages ≤ 128
  pub main_bytes : shape.main_bytes ≡ meaning.page_bytes
  pub spare_bytes : shape.spare_bytes ≡ 16 * meaning.generations
  pub few_bytes : shape.blocks * shape.pages * (shape.main_bytes + shape.spare_bytes) ≤ 67108864
  pub some_sectors : 1 ≤ plan.sectors
  pub few_sectors : plan.sectors < (shape.blocks - 1) * shape.pages
  pub reuse : plan.reuse_max ≤ shape.blocks

-- the book and the next seq are those of the cells by the mount rule, and then by the recycling rule
pub record IsMountedView (d : Numbers) (view : DeviceView) : Type 0 where
  pub found : BookValue
  pub mounted : IsMounted d.geometry view.die.cells found
  pub recycled : Recycles d.reuse_max found view.book
  pub seq : IsMountedSeq d.geometry view.die.cells view.seq

-- nothing was written or moved yet
pub record NoCounts (view : DeviceView) : Type 0 where
  pub first : view.first ≡ 0
  pub second : view.second ≡ 0
  pub declined : view.declined ≡ 0
  pub moved : view.moved ≡ 0

-- a mount reads each page once, and no cell changes
pub record Mounts (d : Numbers) (die : DieState) (new : DeviceValue) : Type 0 where
  pub numbers : new.numbers ≡ d
  pub mounted : IsMountedView d new.view
  pub counts : NoCounts new.view
  pub running : new.stopped ≡ false
  pub true_book : TrueWhileRunning d new
  pub calls : Passed 0 (page_count d.geometry) die new.view.die
  pub cells : SameCells die new.view.die
  pub kept : Kept die new.view.die

-- a read failed
pub record MountFails (d : Numbers) (die new : DieState) : Type 0 where
  pub failed : ReadFailed 0 (page_count d.geometry) die new
  pub cells : SameCells die new
  pub kept : Kept die new

abbrev pub EveryBlockLive : Geometry → DieState → Type 0
EveryBlockLive g die = (block : ℕ) → block < g.blocks → 0 < live_count g die.cells block

-- each page was read, and every block has a live record
pub record NoSpareFound (d : Numbers) (die new : DieState) : Type 0 where
  pub calls : Passed 0 (page_count d.geometry) die new
  pub cells : SameCells die new
  pub kept : Kept die new
  pub full : EveryBlockLive d.geometry die

-- what each refusal says of the die that is handed back
abbrev pub Refuses : Numbers → DieState → DieState → MountError → Type 0
Refuses d die new (errors.OutOfMemory) = new ≡ die
Refuses d die new (errors.Shape) = new ≡ die
Refuses d die new (errors.DieFault) = MountFails d die new
Refuses d die new (errors.NoSpare) = NoSpareFound d die new
