-- The sizes that buffers serve.
use Rattle.std.specs.Prelude.{◌≡◌, ℕ, ◌+◌, ◌-◌, ◌*◌, ◌^◌, ◌<◌, ◌≤◌}
use Rattle.cell_die.specs.declared.shape.Shape.{Shape}
use Rattle.striped.specs.Meaning.{Meaning}

-- main bytes of a page, pages of a unit, bytes of a sector, slots of a page
pub record Sizes : Type 0 where
  pub page_bytes : ℕ
  pub span : ℕ
  pub sector_bytes : ℕ
  pub generations : ℕ

-- the buffers have room for the first page of a unit, for its further pages and for the main bytes of them all
pub record HaveRoom (sizes : Sizes) (page_room further_room unit_room : ℕ) : Type 0 where
  pub page : page_room ≡ sizes.page_bytes + 16 * sizes.generations
  pub further : further_room ≡ (sizes.span - 1) * (sizes.page_bytes + 16 * sizes.generations)
  pub unit : unit_room ≡ sizes.span * sizes.page_bytes
  pub some_bytes : 1 ≤ sizes.page_bytes
  pub few_bytes : sizes.page_bytes ≤ 1200
  pub some_pages : 1 ≤ sizes.span
  pub few_pages : sizes.span ≤ 2
  pub two_slots : 2 ≤ sizes.generations
  pub few_slots : sizes.generations ≤ 3

-- the buffers serve pages of the die, which has fewer than 2^32
pub record Serves (sizes : Sizes) (shape : Shape) : Type 0 where
  pub main_bytes : shape.main_bytes ≡ sizes.page_bytes
  pub spare_bytes : shape.spare_bytes ≡ 16 * sizes.generations
  pub few_pages : shape.blocks * shape.pages < 2 ^ 32

-- and units of the scheme
pub record ServesScheme (sizes : Sizes) (meaning : Meaning) : Type 0 where
  pub page_bytes : meaning.page_bytes ≡ sizes.page_bytes
  pub span : meaning.span ≡ sizes.span
  pub sector_bytes : meaning.sector_bytes ≡ sizes.sector_bytes
  pub generations : meaning.generations ≡ sizes.generations
