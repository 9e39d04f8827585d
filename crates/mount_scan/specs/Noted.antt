-- What a scan keeps of the slots that it has met.
use Rattle.std.specs.Prelude.{◌≡◌, ℕ, ◌+◌, ◌-◌, ◌/◌, ◌<◌, ◌≤◌, Bool, not, true, false, List, [], ◌++◌, length, map, slice_index, slice_set, ◌&&◌, ◌||◌, ◌==◌, nat_lt, max, if◌then◌else◌, Option}
use Rattle.std.specs.Prelude.{Some, None}
use Rattle.std.specs.List.{count_by, filter_map, fold, range_with_len}
use Rattle.zero_count.specs.declared.Header.{Header}
use Rattle.cell_die.specs.Cells.{page_at}
use Rattle.sector_map.specs.declared.entry.Entry.{Entry}
use Rattle.sector_map.specs.declared.entry.Place2.{Place2}
use Rattle.sector_map.specs.Entry.{place_of, entry_at}
use Rattle.block_state.specs.declared.state.State.TheVariants.{Clean}
use Rattle.block_state.specs.Book.{BookValue, state_at, live_at, with_live}
use Rattle.page_codec.specs.declared.place.Place.{Place}
use Rattle.page_codec.specs.declared.seen.Seen.{Seen}
use Rattle.page_codec.specs.Seen.{seen_page}
use Rattle.page_codec.specs.Geometry.{Geometry, page_count, block_of, is_unit_page}
use Rattle.page_codec.specs.Records.{Placed, is_copy, is_sealed, header_in, committed_in, of_sector, newest}
use Rattle.page_codec.specs.TrueBook.{entry_of}
use Rattle.mount_scan.specs.declared.tables.Tables.{Tables}
use Rattle.mount_scan.specs.Mounted.{seq_after}

-- the newest of the committed records of a sector in some slots
unfoldable pub newest_in : Geometry → List (List ℕ) → List Place → ℕ → Option Placed
newest_in g cells slots sector = newest (filter_map (λ place. of_sector sector place (committed_in g cells place)) slots)

-- whether an entry names a page of a block
abbrev pub is_entry_in : ℕ → ℕ → Option Entry → Bool
is_entry_in pages block None = false
is_entry_in pages block (Some entry) = (place_of entry).page / pages == block

-- whether a record is newer than that of an entry, whose seq is known
abbrev pub is_newer_than : Place2 → ℕ → Place → ℕ → Bool
is_newer_than former former_seq place seq =
    nat_lt former_seq seq || seq == former_seq && (nat_lt place.page former.page || place.page == former.page && nat_lt former.slot place.slot)

-- a record is its sector's where the map names none yet, or where it is newer than the one named
abbrev pub wins : Option Entry → ℕ → Place → ℕ → Bool
wins None former_seq place seq = true
wins (Some former) former_seq place seq = is_newer_than (place_of former) former_seq place seq

-- the book with one live record less in the block of an entry
abbrev pub forgotten : BookValue → Option Entry → BookValue
forgotten book None = book
forgotten book (Some entry) =
    let block = (place_of entry).page / book.pages in
    with_live book block (live_at book block - 1)

-- the book with one live record more in a block
abbrev pub counted : BookValue → ℕ → BookValue
counted book block = with_live book block (live_at book block + 1)

-- nothing of the book changes but the live counts
pub record SameBlocks (old new : BookValue) : Type 0 where
  pub states : new.states ≡ old.states
  pub order : new.order ≡ old.order
  pub counts : length new.live ≡ length old.live
  pub pages : new.pages ≡ old.pages
  pub units : new.units ≡ old.units
  pub generations : new.generations ≡ old.generations

-- a record becomes its sector's, and the live counts follow
pub record TakesOver (old new : Tables) (place : Place) (header : Header) : Type 0 where
  pub map : new.map ≡ slice_set old.map header.sector (entry_of (Some (record { place = place; header = header })))
  pub seqs : new.seqs.items ≡ slice_set old.seqs.items header.sector header.seq
  pub book : new.book ≡ counted (forgotten old.book (entry_at old.map header.sector)) (place.page / old.book.pages)
  pub found : new.found ≡ old.found
  pub span : new.span ≡ old.span

-- nothing changes but perhaps the next seq
pub record Stays (old new : Tables) : Type 0 where
  pub map : new.map ≡ old.map
  pub seqs : new.seqs ≡ old.seqs
  pub book : new.book ≡ old.book
  pub found : new.found ≡ old.found
  pub span : new.span ≡ old.span

-- While pages are read all blocks are Clean in the book, and its live counts are those of the map.
pub record IsReading (tables : Tables) : Type 0 where
  pub seqs : length tables.seqs.items ≡ length tables.map
  pub found : length tables.found.items ≡ length tables.book.states
  pub lives : length tables.book.live ≡ length tables.book.states
  pub some_pages : 0 < tables.book.pages
  pub live : (block : ℕ) → live_at tables.book block ≡ count_by (is_entry_in tables.book.pages block) tables.map
  pub within : (sector : ℕ) (entry : Entry) → entry_at tables.map sector ≡ Some entry → (place_of entry).page / tables.book.pages < length tables.book.states
  pub clean : (block : ℕ) → state_at tables.book block ≡ Clean
  pub order : tables.book.order ≡ []

-- The map names the newest committed record of each sector in some slots, and the list of seqs has its seq.
pub record Names (g : Geometry) (cells : List (List ℕ)) (slots : List Place) (tables : Tables) : Type 0 where
  pub sectors : length tables.map ≡ g.sectors
  pub entries : (sector : ℕ) → sector < g.sectors → entry_at tables.map sector ≡ entry_of (newest_in g cells slots sector)
  pub seqs : (sector : ℕ) (placed : Placed) → sector < g.sectors → newest_in g cells slots sector ≡ Some placed → slice_index tables.seqs.items sector ≡ placed.header.seq

-- the next seq after one more slot
abbrev pub seq_with : ℕ → Option Header → ℕ
seq_with seq None = seq
seq_with seq (Some header) = max seq (seq_after header)

-- the next seq after some slots
unfoldable pub next_seq : Geometry → List (List ℕ) → List Place → ℕ
next_seq g cells slots = fold (λ seq place. seq_with seq (header_in g cells place)) 1 slots

-- a committed record becomes its sector's where it wins, and else nothing changes
pub record Notes (old new : Tables) (place : Place) (header : Header) : Type 0 where
  pub won : wins (entry_at old.map header.sector) (slice_index old.seqs.items header.sector) place header.seq ≡ true → TakesOver old new place header
  pub kept : wins (entry_at old.map header.sector) (slice_index old.seqs.items header.sector) place header.seq ≡ false → Stays old new

-- the record in a slot is noted, if there is one
abbrev pub NotesAny : Tables → Tables → Place → Option Header → Type 0
NotesAny old new place None = Stays old new
NotesAny old new place (Some header) = Notes old new place header

-- so many live records more in this block at most, and in no other
abbrev pub MoreAt : ℕ → ℕ → Tables → Tables → Type 0
MoreAt at count old new = (block : ℕ) → live_at new.book block ≤ live_at old.book block + (if at == block then count else 0)

-- the committed record that a read shows in a slot: in a slot where one may stand, of one of the sectors, gated, and sealed if a copy
abbrev pub shown : Bool → Bool → ℕ → Bool → Option Header → Option Header
shown may sealed sectors gate None = None
shown may sealed sectors gate (Some header) =
    if may && nat_lt header.sector sectors && gate && (sealed || not (is_copy header)) then Some header else None

-- the map and the next seq are those of the slots so far
pub record Scanned (g : Geometry) (cells : List (List ℕ)) (slots : List Place) (tables : Tables) : Type 0 where
  pub names : Names g cells slots tables
  pub seq : tables.seq ≡ next_seq g cells slots

-- the slots of a page, in order
abbrev pub slots_of : Geometry → ℕ → List Place
slots_of g page = map (λ slot. record { page = page; slot = slot }) (range_with_len 0 g.generations)

-- what a read showed of a page, whether the page is a unit's first, and whether the block's seal is charged
pub record ShowsPage (g : Geometry) (cells : List (List ℕ)) (page : ℕ) (seen : Seen) (unit sealed : Bool) : Type 0 where
  pub within : page < page_count g
  pub seen_is : seen ≡ seen_page g.main_bytes g.generations (page_at cells page)
  pub unit_is : unit ≡ is_unit_page g page
  pub sealed_is : sealed ≡ is_sealed g cells (block_of g page)

-- the slots of one page more are scanned, on every device of so many slots a page of which this was shown
abbrev pub ScansPage : ℕ → Seen → Bool → Bool → Tables → Tables → Type 0
ScansPage page seen unit sealed old new =
    (g : Geometry) (cells : List (List ℕ)) (slots : List Place) → ShowsPage g cells page seen unit sealed → old.book.generations ≡ g.generations
    → Scanned g cells slots old → Scanned g cells (slots ++ slots_of g page) new
