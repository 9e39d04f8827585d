-- What stands of a write over a unit that was not finished.
use Rattle.std.specs.Prelude.{◌≡◌, ◌⊎◌, ℕ, ◌+◌, ◌<◌, true, List}
use Rattle.std.specs.List.{flat_map, range_with_len}
use Rattle.cell_die.specs.Cells.{page_at, IsAbove}
use Rattle.striped.specs.Meaning.{Decoding}
use Rattle.page_codec.specs.Geometry.{Geometry, main_at, unit_at}

-- the main bytes of the unit that begins at a page, by those of each page
abbrev pub unit_by : Geometry → ℕ → (ℕ → List ℕ) → List ℕ
unit_by g page main = flat_map main (range_with_len page g.span)

-- The unit that begins at a page has cells between the old ones and those that a later write of the sector gives over them.
-- Its first page is as it was, or its further pages have all of theirs.
pub record InPart (g : Geometry) (d : Decoding) (page : ℕ) (sector : List ℕ) (old new : List (List ℕ)) : Type 0 where
  -- the main bytes of each page of the unit, as the write was to leave them
  pub main : ℕ → List ℕ
  pub carries : d.second_carries (unit_by g page main) sector ≡ true
  pub gives : d.second_gives (unit_at g old page) sector (unit_by g page main) ≡ true
  pub above : IsAbove (unit_at g new page) (unit_at g old page)
  pub below : IsAbove (unit_by g page main) (unit_at g new page)
  pub order : (page_at new page ≡ page_at old page) ⊎ ((further : ℕ) → page < further → further < page + g.span → main_at g new further ≡ main further)
