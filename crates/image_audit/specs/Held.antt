-- What the cells of a die hold, as the audit tells it: sectors in the order in which they are first found, without zeros at the end.
use Rattle.std.specs.Prelude.{◌≡◌, ℕ, ◌-◌, Bool, true, false, not, List, [], ◌∷◌, ◌++◌, map, filter, length, replicate, ◌&&◌, ◌==◌, nat_eq, if◌then◌else◌, unwrap_or, Option, Some, None, ◌<◌}
use Rattle.std.specs.Prelude.{slice_index}
use Rattle.std.specs.List.{filter_map, range_with_len}
use Rattle.std.specs.Map.{lookup}
use Rattle.zero_count.specs.declared.Header.{Header}
use Rattle.striped.specs.Meaning.{Decoding}
use Rattle.page_codec.specs.Geometry.{Geometry}
use Rattle.page_codec.specs.Records.{places, committed_in, live_record}
use Rattle.page_codec.specs.Sectors.{said_by}

-- each number once, in the order in which they first come
unfoldable pub first_met : List ℕ → List ℕ
first_met [] = []
first_met (n ∷ ns) = n ∷ filter (λ m. not (n == m)) (first_met ns)

abbrev pub sector_of : Option Header → Option ℕ
sector_of None = None
sector_of (Some header) = Some header.sector

-- the sectors that have a committed record, in the order of the first one of each, by page and then by slot
unfoldable pub sectors_found : Geometry → List (List ℕ) → List ℕ
sectors_found g cells = first_met (filter_map (λ place. sector_of (committed_in g cells place)) (places g))

-- there are no bytes
abbrev pub is_empty : List ℕ → Bool
is_empty [] = true
is_empty (byte ∷ bytes) = false

-- the byte, and then the others, unless all are zero
abbrev pub unless_zeros : ℕ → List ℕ → List ℕ
unless_zeros byte others = if is_empty others && (byte == 0) then [] else byte ∷ others

-- the bytes without the zeros at the end
abbrev pub without_zeros : List ℕ → List ℕ
without_zeros [] = []
without_zeros (byte ∷ bytes) = unless_zeros byte (without_zeros bytes)

-- the last byte, where there are any, is not zero
abbrev pub IsTrimmed : List ℕ → Type 0
IsTrimmed bytes = 0 < length bytes → slice_index bytes (length bytes - 1) ≡ 0 → ⊥

-- the bytes of a sector, as its live record says them
abbrev pub bytes_held : Geometry → Decoding → List (List ℕ) → ℕ → List ℕ
bytes_held g decoding cells sector = without_zeros (said_by g decoding cells (live_record g cells sector))

-- what the cells hold: each sector that has a live record, and its bytes
unfoldable pub held : Geometry → Decoding → List (List ℕ) → List (ℕ × List ℕ)
held g decoding cells = map (λ sector. (sector, bytes_held g decoding cells sector)) (sectors_found g cells)

-- bytes with zeros up to this length
abbrev pub filled_up : ℕ → List ℕ → List ℕ
filled_up count bytes = bytes ++ replicate (count - length bytes) 0

-- the sectors that a list tells, with zeros for those that it lacks
abbrev pub array_told : Geometry → List (ℕ × List ℕ) → List (List ℕ)
array_told g told = map (λ sector. filled_up g.sector_bytes (unwrap_or (lookup (nat_eq sector) told) [])) (range_with_len 0 g.sectors)
