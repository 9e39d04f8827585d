-- The records that a map names: a record in a slot is live exactly where the map names the slot for its sector.
use Rattle.std.specs.Prelude.{◌≡◌, ℕ, ◌+◌, ◌≤◌, ◌<◌, Bool, false, List, length, drop, ◌&&◌, ◌==◌, nat_lt, if◌then◌else◌, Option, Some, None}
use Rattle.zero_count.specs.declared.Header.{Header}
use Rattle.cell_die.specs.DieState.{DieState, page_of}
use Rattle.spare_gate.specs.Slots.{header_at}
use Rattle.sector_map.specs.declared.entry.Entry.{Entry}
use Rattle.sector_map.specs.Entry.{place_of, entry_at}
use Rattle.page_codec.specs.declared.place.Place.{Place}
use Rattle.page_codec.specs.Sizes.{Sizes}
use Rattle.collector.specs.declared.live.LiveRecord.{LiveRecord}
use Rattle.collector.specs.Moves.{ComesBefore}

-- whether an entry names this slot
abbrev pub names_slot : Option Entry → Place → Bool
names_slot None place = false
names_slot (Some entry) place = (place_of entry).page == place.page && (place_of entry).slot == place.slot

-- the record of a header in a slot, where the map names the slot for its sector
abbrev pub named_record : List (Option Entry) → Place → Option Header → Option LiveRecord
named_record table place None = None
named_record table place (Some header) =
    if nat_lt header.sector (length table) && names_slot (entry_at table header.sector) place then Some (record { place = place; header = header }) else None

-- the record of the header that stands in a slot of the die
abbrev pub named_in : List (Option Entry) → ℕ → DieState → Place → Option LiveRecord
named_in table main_bytes die place = named_record table place (header_at (drop main_bytes (page_of die place.page)) place.slot)

-- the first slot of some pages, by page and then by slot, whose record the map names
pub record IsFirstNamed (table : List (Option Entry)) (sizes : Sizes) (die : DieState) (from pages : ℕ) (first : LiveRecord) : Type 0 where
  pub low : from ≤ first.place.page
  pub high : first.place.page < from + pages
  pub slot : first.place.slot < sizes.generations
  pub named : named_in table sizes.page_bytes die first.place ≡ Some first
  pub none_before : (place : Place) → from ≤ place.page → place.slot < sizes.generations → ComesBefore place first.place → named_in table sizes.page_bytes die place ≡ None

-- some slot of some pages has a record that the map names
pub record HasNamed (table : List (Option Entry)) (sizes : Sizes) (die : DieState) (from pages : ℕ) : Type 0 where
  pub live : LiveRecord
  pub low : from ≤ live.place.page
  pub high : live.place.page < from + pages
  pub slot : live.place.slot < sizes.generations
  pub named : named_in table sizes.page_bytes die live.place ≡ Some live
