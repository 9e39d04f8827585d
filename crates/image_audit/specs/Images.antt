-- The cells of an image as those of a die: pages of so many bytes, one after the other.
use Rattle.std.specs.Prelude.{◌≡◌, ℕ, ◌*◌, ◌≤◌, List, length, true}
use Rattle.cell_die.specs.DieState.{page_bytes}
use Rattle.mem_die.specs.Pages.{pages_of}
use Rattle.striped.specs.Meaning.{Meaning}
use Rattle.page_codec.specs.Geometry.{Geometry, page_count, shape_of}
use Rattle.die_image.specs.declared.head.ImageHead.{ImageHead}
use Rattle.die_image.specs.Schemes.{row_of}
use Rattle.die_image.specs.Image.{is_within_limits, die_bytes}

-- the numbers of a head's device
abbrev pub geometry_of : ImageHead → Geometry
geometry_of head = record {
  blocks = head.blocks;
  pages = head.pages;
  main_bytes = (row_of head.scheme).page_bytes;
  generations = (row_of head.scheme).generations;
  span = (row_of head.scheme).span;
  sectors = head.sectors;
  sector_bytes = (row_of head.scheme).sector_bytes;
}

-- the numbers are those of a device within its limits
pub record IsFitting (g : Geometry) : Type 0 where
  pub few_blocks : g.blocks ≤ 1_024
  pub some_pages : 1 ≤ g.pages
  pub few_pages : g.pages ≤ 128
  pub some_main_bytes : 1 ≤ g.main_bytes
  pub few_main_bytes : g.main_bytes ≤ 1_200
  pub two_generations : 2 ≤ g.generations
  pub few_generations : g.generations ≤ 3
  pub some_span : 1 ≤ g.span
  pub small_span : g.span ≤ 2
  pub some_sector_bytes : 1 ≤ g.sector_bytes
  pub few_sector_bytes : g.sector_bytes ≤ 512

-- the bytes of a page, main and spare
abbrev pub whole_bytes : Geometry → ℕ
whole_bytes g = page_bytes (shape_of g)

-- the bytes are those of so many pages
abbrev pub HasLength : Geometry → List ℕ → Type 0
HasLength g bytes = length bytes ≡ page_count g * whole_bytes g

-- the bytes as pages
abbrev pub pages_in : Geometry → List ℕ → List (List ℕ)
pages_in g bytes = pages_of (whole_bytes g) (page_count g) bytes

-- the head is that of a device within its limits, and there are the cells of its die
pub record AreOf (head : ImageHead) (cells : List ℕ) : Type 0 where
  pub within : is_within_limits head ≡ true
  pub whole : length cells ≡ die_bytes head

-- the sizes of a scheme are those of a device
pub record IsServed (g : Geometry) (meaning : Meaning) : Type 0 where
  pub sector_bytes : meaning.sector_bytes ≡ g.sector_bytes
  pub page_bytes : meaning.page_bytes ≡ g.main_bytes
  pub span : meaning.span ≡ g.span
  pub generations : meaning.generations ≡ g.generations
