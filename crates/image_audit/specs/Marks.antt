-- The valid headers of a die in the order of their slots, and what they say of repeated seqs and of live records.
use Rattle.std.specs.Prelude.{◌≡◌, ℕ, Bool, List, [], ◌∷◌, map, ◌&&◌, ◌==◌, nat_lt, nat_le, find, if◌then◌else◌, Option, Some, None, ◌^◌, ◌+◌}
use Rattle.std.specs.List.{filter_map, All}
use Rattle.zero_count.specs.declared.Header.{Header}
use Rattle.page_codec.specs.declared.place.Place.{Place}
use Rattle.page_codec.specs.Geometry.{Geometry}
use Rattle.page_codec.specs.Records.{Placed, may_hold, header_in, is_committed, newest}
use Rattle.image_audit.specs.declared.mark.Mark.{Mark}
use Rattle.image_audit.specs.Held.{first_met}

-- whether a valid header is that of a committed record
abbrev pub is_counted : Geometry → List (List ℕ) → Place → Header → Bool
is_counted g cells place header = may_hold g place && nat_lt header.sector g.sectors && is_committed g cells place header

abbrev pub mark_of : Geometry → List (List ℕ) → Place → Option Header → Option Mark
mark_of g cells place None = None
mark_of g cells place (Some header) = Some (record { place = place; header = header; counts = is_counted g cells place header })

-- the marks of the valid headers in some slots
unfoldable pub marks_in : Geometry → List (List ℕ) → List Place → List Mark
marks_in g cells slots = filter_map (λ place. mark_of g cells place (header_in g cells place)) slots

abbrev pub placed_of : Mark → Placed
placed_of mark = record { place = mark.place; header = mark.header }

-- the first mark of a seq
abbrev pub with_seq : ℕ → List Mark → Option Mark
with_seq seq marks = find (λ mark. mark.header.seq == seq) marks

abbrev pub repeat_or : Mark → Option Mark → Option (Place × Place) → Option (Place × Place)
repeat_or mark None later = later
repeat_or mark (Some other) later = Some (mark.place, other.place)

-- the first mark whose seq stands in a later one, and the first such later one
unfoldable pub first_repeat : List Mark → Option (Place × Place)
first_repeat [] = None
first_repeat (mark ∷ marks) = repeat_or mark (with_seq mark.header.seq marks) (first_repeat marks)

-- the first mark of a seq that is not bounded
unfoldable pub first_high : List Mark → Option Mark
first_high marks = find (λ mark. nat_le (2 ^ 62 + 2 ^ 20) mark.header.seq) marks

-- the committed record of a mark, where it is one of this sector
abbrev pub counted_of : ℕ → Mark → Option Placed
counted_of sector mark = if mark.counts && (mark.header.sector == sector) then Some (placed_of mark) else None

-- the newest committed record of a sector
unfoldable pub newest_of : List Mark → ℕ → Option Placed
newest_of marks sector = newest (filter_map (counted_of sector) marks)

abbrev pub counted_sector : Mark → Option ℕ
counted_sector mark = if mark.counts then Some mark.header.sector else None

-- the sectors of the committed records, in the order of the marks
unfoldable pub sectors_in : List Mark → List ℕ
sectors_in marks = filter_map counted_sector marks

-- these are the live records, in the order in which their sectors are first found
pub record AreLive (marks live : List Mark) : Type 0 where
  pub sectors : map (λ mark. mark.header.sector) live ≡ first_met (sectors_in marks)
  pub newest : All (λ mark. newest_of marks mark.header.sector ≡ Some (placed_of mark)) live
