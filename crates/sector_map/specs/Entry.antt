-- What a contract sees of a `SectorMap`: the list of its sectors' entries.
use Rattle.std.specs.Prelude.{ℕ, Option, None, List, slice_index_or}
use Rattle.sector_map.specs.declared.entry.Entry.{Entry}
use Rattle.sector_map.specs.declared.entry.Entry.TheVariants.{Held, Zeros}
use Rattle.sector_map.specs.declared.entry.Place2.{Place2}

-- the place that an entry names
abbrev pub place_of : Entry → Place2
place_of (Held place) = place
place_of (Zeros place) = place

-- the entry of a sector, and none past the last sector
abbrev pub entry_at : List (Option Entry) → ℕ → Option Entry
entry_at map sector = slice_index_or map sector None
