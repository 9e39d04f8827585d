-- What a mount has read: the pages of a die in order, up to some page.
use Rattle.std.specs.Prelude.{◌≡◌, ◌⊎◌, ℕ, ◌+◌, ◌*◌, ◌<◌, ◌≤◌, List, length, slice_index_or}
use Rattle.std.specs.List.{flat_map, range_with_len, list_all}
use Rattle.cell_die.specs.declared.shape.Shape.{Shape}
use Rattle.cell_die.specs.Cells.{page_at, is_blank}
use Rattle.cell_die.specs.DieState.{DieState}
use Rattle.cell_die.specs.Changes.{SameCells}
use Rattle.cell_die.specs.Calls.{Kept, Passed, ReadFailed}
use Rattle.block_state.specs.declared.state.State.TheVariants.{Clean}
use Rattle.block_state.specs.Book.{BookValue, live_at}
use Rattle.reuse_pool.specs.Recycling.{Recycles}
use Rattle.page_codec.specs.declared.place.Place.{Place}
use Rattle.page_codec.specs.Sizes.{Sizes}
use Rattle.page_codec.specs.Geometry.{Geometry, page_count, units}
use Rattle.page_codec.specs.Records.{is_sealed}
use Rattle.page_codec.specs.Sound.{live_count}
use Rattle.page_codec.specs.TrueBook.{HasSizes, IsTrueBook, UnitSlotBlank}
use Rattle.mount_scan.specs.declared.sight.Sight.{Sight}
use Rattle.mount_scan.specs.declared.scan.ScanRefusal.{ScanRefusal}
use Rattle.mount_scan.specs.declared.scan.ScanRefusal.TheVariants.{DieFault, NoSpare}
use Rattle.mount_scan.specs.declared.tables.Tables.{Tables}
use Rattle.mount_scan.specs.Mounted.{IsFound, IsMounted, IsMountedSeq, SlotUsed}
use Rattle.mount_scan.specs.Noted.{IsReading, Scanned, slots_of}

-- the numbers of a device on a die of this shape, with buffers of these sizes and so many sectors
abbrev pub geometry_of : Shape → Sizes → ℕ → Geometry
geometry_of shape sizes sectors = record {
  blocks = shape.blocks;
  pages = shape.pages;
  main_bytes = shape.main_bytes;
  generations = sizes.generations;
  span = sizes.span;
  sectors = sectors;
  sector_bytes = sizes.sector_bytes;
}

-- the slots of the pages below some page, by page and then by slot
abbrev pub slots_below : Geometry → ℕ → List Place
slots_below g page = flat_map (slots_of g) (range_with_len 0 page)

-- the tables are those of a device, whose units have one or two pages
pub record Fits (g : Geometry) (tables : Tables) : Type 0 where
  pub sizes : HasSizes g tables.book
  pub span : tables.span ≡ g.span
  pub some_pages : 0 < g.span

-- What the first pages of a block, so many of them, show of it.
pub record Shows (g : Geometry) (cells : List (List ℕ)) (block pages : ℕ) (sight : Sight) : Type 0 where
  pub blank : sight.blank ≡ list_all (λ page. is_blank (page_at cells page)) (range_with_len (block * g.pages) pages)
  pub sealed : 0 < pages → sight.sealed ≡ is_sealed g cells block
  pub within : sight.level < g.generations
  pub above : (u slot : ℕ) → u * g.span < pages → u < units g → sight.level < slot → slot < g.generations → UnitSlotBlank g cells block u slot
  pub reached : (sight.level ≡ 0) ⊎ SlotUsed g cells block sight.level

-- All pages of the blocks below one, and so many pages of that block, are read and noted.
pub record ReadInto (g : Geometry) (cells : List (List ℕ)) (block pages : ℕ) (tables : Tables) : Type 0 where
  pub fits : Fits g tables
  pub reading : IsReading tables
  pub scanned : Scanned g cells (slots_below g (block * g.pages + pages)) tables
  pub few_live : live_at tables.book block ≤ g.generations * pages
  pub none_later : (later : ℕ) → block < later → live_at tables.book later ≡ 0
  pub found : (earlier : ℕ) → earlier < block → IsFound g cells earlier (slice_index_or tables.found.items earlier Clean)

-- the same of a die and of buffers of these sizes
abbrev pub ReadOn : DieState → Sizes → ℕ → ℕ → Tables → Type 0
ReadOn die sizes block pages tables = ReadInto (geometry_of die.shape sizes (length tables.map)) die.cells block pages tables

abbrev pub ShowsOn : DieState → Sizes → Tables → ℕ → ℕ → Sight → Type 0
ShowsOn die sizes tables = Shows (geometry_of die.shape sizes (length tables.map)) die.cells

-- so many pages were read, and no cell and no erase count differs
pub record Reads (pages : ℕ) (old new : DieState) : Type 0 where
  pub same_cells : SameCells old new
  pub kept : Kept old new
  pub passed : Passed 0 pages old new

-- at most so many pages were read, of which the last failed, and no cell or erase count differs
pub record FailsToRead (pages : ℕ) (old new : DieState) : Type 0 where
  pub same_cells : SameCells old new
  pub kept : Kept old new
  pub failed : ReadFailed 0 pages old new

-- each block has a live record
abbrev pub EveryBlockLive : Geometry → List (List ℕ) → Type 0
EveryBlockLive g cells = (block : ℕ) → block < g.blocks → 0 < live_count g cells block

-- The tables of a mount: those of the mount rule, and then a run of the recycling rule. They are true to the cells.
pub record AreMounted (g : Geometry) (reuse_max : ℕ) (cells : List (List ℕ)) (tables : Tables) : Type 0 where
  pub found : BookValue
  pub mounted : IsMounted g cells found
  pub recycled : Recycles reuse_max found tables.book
  pub seq : IsMountedSeq g cells tables.seq
  pub true_book : IsTrueBook g reuse_max cells tables.book tables.map tables.seq

-- why a die was not mounted: every block has a live record and all pages were read, or a read failed
abbrev pub ScanRefused : Geometry → DieState → DieState → ScanRefusal → Type 0
ScanRefused g old new NoSpare = EveryBlockLive g old.cells × Reads (page_count g) old new
ScanRefused g old new DieFault = FailsToRead (page_count g) old new
