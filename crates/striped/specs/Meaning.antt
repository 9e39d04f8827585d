-- What a scheme makes of cells.
use Rattle.std.specs.Prelude.{◌≡◌, ℕ, ◌+◌, ◌*◌, ◌^◌, ◌<◌, ◌≤◌, Bool, true, List, length, slice_index}
use Rattle.cell_bits.specs.Cells.{IsAbove, charge_at}

-- What a page (first) and a unit (second) decode to, whether a unit carries a sector, and which cells the scheme gives.
pub record Decoding : Type 0 where
  pub first : List ℕ → List ℕ
  pub second : List ℕ → List ℕ
  pub second_carries : List ℕ → List ℕ → Bool
  -- whether these are the main bytes that a first write of a sector gives a page: page, sector
  pub first_gives : List ℕ → List ℕ → Bool
  -- whether these are the main bytes that a later write of a sector gives a unit: old unit, sector, new unit
  pub second_gives : List ℕ → List ℕ → List ℕ → Bool

-- the numbers of a scheme, and what it makes of cells; it uses the first used_cells cells of each page
pub record Meaning : Type 0 where
  pub sector_bytes : ℕ
  pub page_bytes : ℕ
  pub used_cells : ℕ
  pub span : ℕ
  pub generations : ℕ
  pub decoding : Decoding

-- a sector of the scheme's length, in bytes
pub record IsSector (meaning : Meaning) (sector : List ℕ) : Type 0 where
  pub long : length sector ≡ meaning.sector_bytes
  pub bytes : (k : ℕ) → slice_index sector k < 2 ^ 8

-- what a first write gives for a sector decodes to it, and so does a unit that carries it
pub record Decodes (meaning : Meaning) : Type 0 where
  pub first : (page sector : List ℕ) → IsSector meaning sector → meaning.decoding.first_gives page sector ≡ true → meaning.decoding.first page ≡ sector
  pub second : (unit sector : List ℕ) → IsSector meaning sector → meaning.decoding.second_carries unit sector ≡ true → meaning.decoding.second unit ≡ sector

-- the new unit is above the old one and carries the sector
pub record CarriesOver (meaning : Meaning) (old new sector : List ℕ) : Type 0 where
  pub above : IsAbove new old
  pub carries : meaning.decoding.second_carries new sector ≡ true

-- no cells above the unit carry the sector
abbrev pub NoneCarries : Meaning → List ℕ → List ℕ → Type 0
NoneCarries meaning unit sector = (new : List ℕ) → CarriesOver meaning unit new sector → ⊥

-- on each page the cells past those that the scheme uses stay as they are
abbrev pub KeepsRest : Meaning → List ℕ → List ℕ → Type 0
KeepsRest meaning old new =
    (page cell : ℕ) → meaning.used_cells ≤ cell → cell < 8 * meaning.page_bytes → charge_at new (8 * meaning.page_bytes * page + cell) ≡ charge_at old (8 * meaning.page_bytes * page + cell)
