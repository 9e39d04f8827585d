-- Records: what the slots of a die say of its sectors, and which of them is live.
use Rattle.std.specs.Prelude.{ℕ, ◌*◌, Bool, true, List, map, ◌&&◌, ◌||◌, ◌==◌, nat_lt, if◌then◌else◌, Option, Some, None}
use Rattle.std.specs.List.{flat_map, filter_map, range_with_len, reduce}
use Rattle.zero_count.specs.declared.Header.{Header}
use Rattle.spare_gate.specs.Slots.{header_at, is_gate_charged, is_seal_charged}
use Rattle.page_codec.specs.Geometry.{Geometry, page_count, block_of, is_unit_page, spare_at}
use Rattle.page_codec.specs.declared.place.Place.{Place}

-- a header and the slot that it stands in
pub record Placed : Type 0 where
  pub place : Place
  pub header : Header

-- the valid header in a slot
abbrev pub header_in : Geometry → List (List ℕ) → Place → Option Header
header_in g cells place = header_at (spare_at g cells place.page) place.slot

-- a record may stand in slot 0 of any page, and in the further slots of a unit's first page
abbrev pub may_hold : Geometry → Place → Bool
may_hold g place = nat_lt place.page (page_count g) && (place.slot == 0 || nat_lt place.slot g.generations && is_unit_page g place.page)

abbrev pub below_sectors : Geometry → Option Header → Option Header
below_sectors g None = None
below_sectors g (Some header) = if nat_lt header.sector g.sectors then Some header else None

-- the record in a slot: a valid header there, of a sector of the device
unfoldable pub record_in : Geometry → List (List ℕ) → Place → Option Header
record_in g cells place = if may_hold g place then below_sectors g (header_in g cells place) else None

-- kinds 2 and 4 are copies made by a collection
abbrev pub is_copy : Header → Bool
is_copy header = header.kind == 2 || header.kind == 4

-- the seal of a block stands on its first page
abbrev pub is_sealed : Geometry → List (List ℕ) → ℕ → Bool
is_sealed g cells block = is_seal_charged (spare_at g cells (block * g.pages))

-- a record is committed where its gate is charged and, for a copy, the seal of its block
unfoldable pub is_committed : Geometry → List (List ℕ) → Place → Header → Bool
is_committed g cells place header =
    is_gate_charged (spare_at g cells place.page) place.slot
    && (if is_copy header then is_sealed g cells (block_of g place.page) else true)

abbrev pub if_committed : Geometry → List (List ℕ) → Place → Option Header → Option Header
if_committed g cells place None = None
if_committed g cells place (Some header) = if is_committed g cells place header then Some header else None

-- the record in a slot, where it is committed
unfoldable pub committed_in : Geometry → List (List ℕ) → Place → Option Header
committed_in g cells place = if_committed g cells place (record_in g cells place)

-- a header of this sector, and its slot
abbrev pub of_sector : ℕ → Place → Option Header → Option Placed
of_sector sector place None = None
of_sector sector place (Some header) = if header.sector == sector then Some (record { place = place; header = header }) else None

-- every slot of the die, by page and then by slot
abbrev pub places : Geometry → List Place
places g = flat_map (λ page. map (λ slot. record { page = page; slot = slot }) (range_with_len 0 g.generations)) (range_with_len 0 (page_count g))

-- the committed records of a sector
unfoldable pub records_of : Geometry → List (List ℕ) → ℕ → List Placed
records_of g cells sector = filter_map (λ place. of_sector sector place (committed_in g cells place)) (places g)

-- the greater seq is newer; with equal seqs the lower page, and on one page the higher slot
abbrev pub is_newer : Placed → Placed → Bool
is_newer a b =
    nat_lt b.header.seq a.header.seq
    || a.header.seq == b.header.seq && (nat_lt a.place.page b.place.page || a.place.page == b.place.page && nat_lt b.place.slot a.place.slot)

-- the newest of some records
unfoldable pub newest : List Placed → Option Placed
newest records = reduce (λ a b. if is_newer b a then b else a) records

-- the live record of a sector: the newest of its committed records
unfoldable pub live_record : Geometry → List (List ℕ) → ℕ → Option Placed
live_record g cells sector = newest (records_of g cells sector)
