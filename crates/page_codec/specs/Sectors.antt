-- What the cells of a die stand for: the list of sectors.
use Rattle.std.specs.Prelude.{◌≡◌, ℕ, Bool, true, false, List, map, replicate, ◌||◌, ◌==◌, if◌then◌else◌, Option, Some, None}
use Rattle.std.specs.List.{range_with_len}
use Rattle.zero_count.specs.declared.Header.{Header}
use Rattle.cell_die.specs.Cells.{is_blank}
use Rattle.striped.specs.Meaning.{Decoding}
use Rattle.page_codec.specs.Geometry.{Geometry, main_at, unit_at}
use Rattle.page_codec.specs.Records.{Placed, live_record}

-- kinds 3 and 4 say that the sector is zeros
abbrev pub says_zeros : Header → Bool
says_zeros header = header.kind == 3 || header.kind == 4

abbrev pub zero_sector : Geometry → List ℕ
zero_sector g = replicate g.sector_bytes 0

-- what a live record says: slot 0 is decoded from its page, a further slot from its unit
abbrev pub said_by : Geometry → Decoding → List (List ℕ) → Option Placed → List ℕ
said_by g decoding cells None = zero_sector g
said_by g decoding cells (Some placed) =
    if says_zeros placed.header then zero_sector g
    else (if placed.place.slot == 0 then decoding.first (main_at g cells placed.place.page) else decoding.second (unit_at g cells placed.place.page))

-- The main cells of the page that a record stands on in slot 0: those that a first write of the sector gives, and blank ones
-- where the record says zeros.
pub record InCells (g : Geometry) (decoding : Decoding) (cells : List (List ℕ)) (page : ℕ) (header : Header) (sector : List ℕ) : Type 0 where
  pub bytes : says_zeros header ≡ false → decoding.first_gives (main_at g cells page) sector ≡ true
  pub zeros : says_zeros header ≡ true → is_blank (main_at g cells page) ≡ true

-- the sectors that the cells stand for, in order
unfoldable pub stored : Geometry → Decoding → List (List ℕ) → List (List ℕ)
stored g decoding cells = map (λ sector. said_by g decoding cells (live_record g cells sector)) (range_with_len 0 g.sectors)
