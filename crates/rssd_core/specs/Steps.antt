-- The steps of a write or trim, each over the die, the map, the book and the next seq.
use Rattle.std.specs.Prelude.{◌≡◌, ◌≢◌, ◌⊎◌, ℕ, ◌+◌, ◌*◌, ◌^◌, ◌<◌, ◌≤◌, true, List, Option, Some, Result, Ok, Err, slice_set}
use Rattle.zero_count.specs.declared.Header.{Header}
use Rattle.cell_die.specs.Cells.{IsAbove}
use Rattle.cell_die.specs.Changes.{SameCells}
use Rattle.cell_die.specs.Calls.{Passed, ChangeFailed, ReadFailed}
use Rattle.wom_code.specs.declared.code.Carry.{Carry}
use Rattle.wom_code.specs.declared.code.Carry.TheVariants.{Carried, Declined}
use Rattle.page_codec.specs.declared.fault.PutFault.{PutFault}
use Rattle.page_codec.specs.declared.fault.PutFault.TheVariants as faults
use Rattle.page_codec.specs.declared.place.Place.{Place}
use Rattle.reuse_pool.specs.declared.unit.ReuseUnit.{ReuseUnit}
use Rattle.reuse_pool.specs.Offer.{passed}
use Rattle.striped.specs.Meaning.{Decoding}
use Rattle.sector_map.specs.declared.entry.Entry.{Entry}
use Rattle.sector_map.specs.Entry.{entry_at}
use Rattle.block_state.specs.declared.state.State.TheVariants.{Active}
use Rattle.block_state.specs.Book.{BookValue, state_at, live_at, with_state}
use Rattle.page_alloc.specs.declared.next_page.NextPage.TheVariants.{Collect}
use Rattle.page_alloc.specs.CleanPage.{IsPageBranch}
use Rattle.rssd_core.specs.Rules.{next_page}
use Rattle.rssd_core.specs.BookChanges.{Change, Leads, EachOnce, passes, is_offer}
use Rattle.std.specs.List.{count_by}
use Rattle.rssd_core.specs.Calls.{calls_before, collection_reads, copies_due, named_page}
use Rattle.rssd_core.specs.Erases.{erase_due, Erased, ErasedOrFailed}
use Rattle.rssd_core.specs.Given.{InPart}
use Rattle.rssd_core.specs.Moves.{sealed_records}
use Rattle.rssd_core.specs.Within.{Went, IsCollect}
use Rattle.page_codec.specs.Geometry.{Geometry, units, unit_page, unit_at}
use Rattle.page_codec.specs.Puts.{first_slot}
use Rattle.page_codec.specs.Records.{live_record}
use Rattle.page_codec.specs.Sectors.{stored, InCells}
use Rattle.page_codec.specs.Sound.{IsSound}
use Rattle.collector.specs.Effects.{filled, recorded, former_in}
use Rattle.collector.specs.Store.{Store, IsTrueStore, SameRows}

-- a device has at least two blocks, of pages and of units of some pages, and two slots a page or three
pub record IsSized (g : Geometry) : Type 0 where
  pub two_blocks : 2 ≤ g.blocks
  pub pages : 0 < g.pages
  pub span : 0 < g.span
  pub some_units : 0 < units g
  pub two_slots : 2 ≤ g.generations
  pub small_sector : g.sector_bytes ≤ 512
  pub small_page : g.main_bytes ≤ 1200

-- the row of a sector is set
abbrev pub SetsRow : Geometry → Decoding → ℕ → List ℕ → Store → Store → Type 0
SetsRow g d sector row old new = stored g d new.die.cells ≡ slice_set (stored g d old.die.cells) sector row

-- the block of a sector's former live record
abbrev pub former_block : BookValue → List (Option Entry) → ℕ → Option ℕ
former_block book table sector = former_in book (entry_at table sector)

-- A record stands on the Active block's next page, which was this one, and the record effect followed.
pub record PutNext (g : Geometry) (d : Decoding) (page : ℕ) (h : Header) (row : List ℕ) (old new : Store) : Type 0 where
  pub block : ℕ
  pub fill : ℕ
  pub active : state_at old.book block ≡ Active fill
  pub page_is : page ≡ block * g.pages + fill
  pub live : live_record g new.die.cells h.sector ≡ Some (record { place = first_slot page; header = h })
  pub others : (sector : ℕ) → sector ≢ h.sector → live_record g new.die.cells sector ≡ live_record g old.die.cells sector
  pub rows : SetsRow g d h.sector row old new
  pub cells : InCells g d new.die.cells page h row
  pub book : new.book ≡ filled (recorded old.book block (former_block old.book old.table h.sector)) block
  pub seq : new.seq ≡ old.seq + 1
  pub tables : IsTrueStore g new
  pub erases : new.die.erases ≡ old.die.erases
  pub calls : Passed 2 0 old.die new.die

-- A page is at hand that was named before: the Active block's next one, or that of a block that was taken, wiped or collected
-- into. Some records were moved, and no sector changed. So many units were passed and so many reads were made before.
pub record OpenedAfter (g : Geometry) (d : Decoding) (passed before page rise : ℕ) (old new : Store) : Type 0 where
  pub changes : List Change
  pub leads : (reuse_max : ℕ) → Leads reuse_max old.book changes new.book
  pub once : EachOnce changes
  pub passed_so : passes changes ≡ passed
  pub none_offered : count_by is_offer changes ≡ 0
  pub rises : rise ≡ sealed_records old.book changes
  pub copied : rise ≡ copies_due old.book (next_page old.book)
  pub collected : (victim spare : ℕ) → next_page old.book ≡ Collect victim spare → rise ≡ live_at old.book victim
  pub named : page ≡ named_page old.book (next_page old.book)
  pub branch : IsPageBranch new.book page
  pub rows : SameRows g d old new
  pub few : new.seq < old.seq + 2 ^ 7
  pub drawn : new.seq ≡ old.seq + rise
  pub erased : Erased (erase_due old.book (next_page old.book)) old.die new.die
  pub tables : IsTrueStore g new
  pub calls : Went (calls_before old.book (next_page old.book)) (before + collection_reads g old.die.cells (next_page old.book)) (IsCollect (next_page old.book)) old.die new.die

abbrev pub Opened : Geometry → Decoding → ℕ → ℕ → Store → Store → Type 0
Opened g d page rise old new = OpenedAfter g d 0 0 page rise old new

-- A read of a collection failed: nothing was sealed, and no sector changed.
pub record OpenReadFailed (g : Geometry) (d : Decoding) (passed before : ℕ) (old new : Store) : Type 0 where
  pub changes : List Change
  pub leads : (reuse_max : ℕ) → Leads reuse_max old.book changes new.book
  pub once : EachOnce changes
  pub passed_so : passes changes ≡ passed
  pub none_offered : count_by is_offer changes ≡ 0
  pub none_sealed : sealed_records old.book changes ≡ 0
  pub rows : SameRows g d old new
  pub few : new.seq < old.seq + 2 ^ 7
  pub erased : Erased (erase_due old.book (next_page old.book)) old.die new.die
  pub tables : IsTrueStore g new
  pub failed : ReadFailed (calls_before old.book (next_page old.book)) (before + collection_reads g old.die.cells (next_page old.book)) old.die new.die

-- A change call of a wipe or of a collection failed: nothing was sealed, and over sound cells no sector changed.
pub record OpenChangeFailed (g : Geometry) (d : Decoding) (passed before : ℕ) (old new : Store) : Type 0 where
  pub changes : List Change
  pub leads : (reuse_max : ℕ) → Leads reuse_max old.book changes new.book
  pub once : EachOnce changes
  pub passed_so : passes changes ≡ passed
  pub none_offered : count_by is_offer changes ≡ 0
  pub none_sealed : sealed_records old.book changes ≡ 0
  pub rows : IsSound g old.die.cells → SameRows g d old new
  pub few : new.seq < old.seq + 2 ^ 7
  pub erased : ErasedOrFailed (erase_due old.book (next_page old.book)) before old.die new.die
  pub failed : ChangeFailed (calls_before old.book (next_page old.book)) (before + collection_reads g old.die.cells (next_page old.book)) old.die new.die

-- A change call of such a put failed: the row is as before or set, and one seq was drawn.
pub record PutNextFailed (g : Geometry) (d : Decoding) (h : Header) (row : List ℕ) (old new : Store) : Type 0 where
  pub same : new ≡ record old { die = new.die; seq = old.seq + 1 }
  pub rows : SameRows g d old new ⊎ SetsRow g d h.sector row old new
  pub erases : new.die.erases ≡ old.die.erases
  pub failed : ChangeFailed 2 0 old.die new.die

-- ---- the offered unit

-- the slot that a unit offers, on the unit's first page
abbrev pub place_in : Geometry → ReuseUnit → Place
place_in g unit = record { page = unit_page g unit.block unit.number; slot = unit.slot }

-- the main bytes of a unit
abbrev pub bytes_in : Geometry → Store → ReuseUnit → List ℕ
bytes_in g store unit = unit_at g store.die.cells (unit_page g unit.block unit.number)

-- the unit is passed
abbrev pub passing : BookValue → ReuseUnit → BookValue
passing book unit = with_state book unit.block (passed book unit)

-- A record stands over the offered unit, the record effect followed, and the unit is passed.
pub record PutOver (g : Geometry) (d : Decoding) (unit : ReuseUnit) (h : Header) (row : List ℕ) (old new : Store) : Type 0 where
  pub live : live_record g new.die.cells h.sector ≡ Some (record { place = place_in g unit; header = h })
  pub others : (sector : ℕ) → sector ≢ h.sector → live_record g new.die.cells sector ≡ live_record g old.die.cells sector
  pub rows : SetsRow g d h.sector row old new
  pub above : IsAbove (bytes_in g new unit) (bytes_in g old unit)
  pub carries : d.second_carries (bytes_in g new unit) row ≡ true
  pub gives : d.second_gives (bytes_in g old unit) row (bytes_in g new unit) ≡ true
  pub book : new.book ≡ passing (recorded old.book unit.block (former_block old.book old.table h.sector)) unit
  pub seq : new.seq ≡ old.seq + 1
  pub tables : IsTrueStore g new
  pub erases : new.die.erases ≡ old.die.erases
  pub calls : Passed (g.span + 1) g.span old.die new.die

-- No cells above the unit's carry the sector: the unit is passed, and nothing else changed.
pub record OverDeclined (g : Geometry) (d : Decoding) (unit : ReuseUnit) (row : List ℕ) (old new : Store) : Type 0 where
  pub same : new ≡ record old { die = new.die; book = passing old.book unit }
  pub cells : SameCells old.die new.die
  pub none : (cells : List ℕ) → IsAbove cells (bytes_in g old unit) → d.second_carries cells row ≡ true → ⊥
  pub tables : IsTrueStore g new
  pub calls : Passed 0 g.span old.die new.die

-- A read of the unit failed: nothing changed.
pub record OverReadFailed (g : Geometry) (old new : Store) : Type 0 where
  pub same : new ≡ record old { die = new.die }
  pub cells : SameCells old.die new.die
  pub failed : ReadFailed 0 g.span old.die new.die

-- A change call failed: some cells above the unit's carry the sector, and the unit has part of those that the write gives. The row
-- is as before or set, and one seq was drawn.
pub record OverChangeFailed (g : Geometry) (d : Decoding) (unit : ReuseUnit) (h : Header) (row : List ℕ) (old new : Store) : Type 0 where
  pub same : new ≡ record old { die = new.die; seq = old.seq + 1 }
  pub rows : SameRows g d old new ⊎ SetsRow g d h.sector row old new
  pub cells : List ℕ
  pub above : IsAbove cells (bytes_in g old unit)
  pub carries : d.second_carries cells row ≡ true
  pub part : InPart g d (unit_page g unit.block unit.number) row old.die.cells new.die.cells
  pub erases : new.die.erases ≡ old.die.erases
  pub failed : ChangeFailed (g.span + 1) g.span old.die new.die

-- how a put over the offered unit ends
abbrev pub OverEnds : Geometry → Decoding → ReuseUnit → Header → List ℕ → Result Carry PutFault → Store → Store → Type 0
OverEnds g d unit h row (Ok Carried) old new = PutOver g d unit h row old new
OverEnds g d unit h row (Ok Declined) old new = OverDeclined g d unit row old new
OverEnds g d unit h row (Err (faults.Read)) old new = OverReadFailed g old new
OverEnds g d unit h row (Err (faults.Change)) old new = OverChangeFailed g d unit h row old new
