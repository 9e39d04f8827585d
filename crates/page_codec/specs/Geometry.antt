-- The numbers of a device, and its blocks, units and pages.
use Rattle.std.specs.Prelude.{◌≡◌, ℕ, ◌+◌, ◌*◌, ◌/◌, ◌%◌, ◌^◌, ◌<◌, Bool, List, length, take, drop, slice_index, ◌&&◌, ◌==◌, nat_lt}
use Rattle.std.specs.List.{flat_map, range_with_len}
use Rattle.cell_die.specs.declared.shape.Shape.{Shape}
use Rattle.cell_die.specs.Cells.{page_at}

-- the cells have the shape of a die: as many pages, each of as many bytes
pub record HasShape (shape : Shape) (cells : List (List ℕ)) : Type 0 where
  pub pages : length cells ≡ shape.blocks * shape.pages
  pub bytes : (page : ℕ) → page < shape.blocks * shape.pages → length (page_at cells page) ≡ shape.main_bytes + shape.spare_bytes
  pub small : (page k : ℕ) → slice_index (page_at cells page) k < 2 ^ 8

-- blocks, pages of a block, main bytes and slots of a page, pages of a unit, sectors
pub record Geometry : Type 0 where
  pub blocks : ℕ
  pub pages : ℕ
  pub main_bytes : ℕ
  pub generations : ℕ
  pub span : ℕ
  pub sectors : ℕ
  pub sector_bytes : ℕ

-- the shape of the die: 16 spare bytes for each slot
abbrev pub shape_of : Geometry → Shape
shape_of g = record { blocks = g.blocks; pages = g.pages; main_bytes = g.main_bytes; spare_bytes = 16 * g.generations }

abbrev pub page_count : Geometry → ℕ
page_count g = g.blocks * g.pages

abbrev pub block_of : Geometry → ℕ → ℕ
block_of g page = page / g.pages

-- the whole units of a block; pages left over belong to none
abbrev pub units : Geometry → ℕ
units g = g.pages / g.span

-- the first page of unit u of a block
abbrev pub unit_page : Geometry → ℕ → ℕ → ℕ
unit_page g block u = block * g.pages + u * g.span

-- whether a page is the first of a unit
abbrev pub is_unit_page : Geometry → ℕ → Bool
is_unit_page g page = page % g.pages % g.span == 0 && nat_lt (page % g.pages / g.span) (units g)

-- the main and the spare bytes of a page
abbrev pub main_at : Geometry → List (List ℕ) → ℕ → List ℕ
main_at g cells page = take g.main_bytes (page_at cells page)

abbrev pub spare_at : Geometry → List (List ℕ) → ℕ → List ℕ
spare_at g cells page = drop g.main_bytes (page_at cells page)

-- the main bytes of the unit that begins at a page
abbrev pub unit_at : Geometry → List (List ℕ) → ℕ → List ℕ
unit_at g cells page = flat_map (main_at g cells) (range_with_len page g.span)
