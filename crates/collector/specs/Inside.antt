-- Facts inside a collection: what holds before its first copy, between two copies and after the last one.
use Rattle.std.specs.Prelude.{◌≡◌, ◌≢◌, ◌⊎◌, ℕ, ◌+◌, ◌*◌, ◌/◌, ◌%◌, ◌<◌, ◌≤◌, ◌==◌, nat_lt, ◌&&◌, ◌^◌, Bool, true, false, List, length, slice_index_or, if◌then◌else◌, count_by, sum_by, Option}
use Rattle.std.specs.Prelude.{Some, None, Result, Ok, Err}
use Rattle.std.specs.List.{range_with_len}
use Rattle.zero_count.specs.declared.Header.{Header}
use Rattle.cell_die.specs.declared.shape.Shape.{Shape}
use Rattle.cell_die.specs.Cells.{page_at, is_blank}
use Rattle.cell_die.specs.Calls.{Passed}
use Rattle.striped.specs.Meaning.{Meaning, Decoding}
use Rattle.spare_gate.specs.Slots.{is_gate_charged, is_slot_blank}
use Rattle.block_state.specs.declared.state.State.TheVariants.{Spare}
use Rattle.block_state.specs.Book.{IsClosed, NoneActive, state_at, live_at, with_state}
use Rattle.page_codec.specs.declared.place.Place.{Place}
use Rattle.page_codec.specs.declared.fault.PutFault.{PutFault}
use Rattle.page_codec.specs.declared.fault.PutFault.TheVariants.{Read, Change}
use Rattle.page_codec.specs.Geometry.{Geometry, block_of, shape_of, spare_at}
use Rattle.page_codec.specs.Records.{Placed, header_in, record_in, is_sealed, live_record}
use Rattle.page_codec.specs.Sectors.{said_by, InCells}
use Rattle.collector.specs.Store.{Store, IsTrueStore, Holds, geometry_of}
use Rattle.collector.specs.Collections.{Collected, CollectReadFailed, CollectChangeFailed, copy_of, get_reads, nth}
use Rattle.collector.specs.declared.moves.Move.{Move}
use Rattle.collector.specs.Settles.{move_of, no_move}

-- the number of a slot within its block, by page and then by slot
abbrev pub number_of : Geometry → Place → ℕ
number_of g place = place.page % g.pages * g.generations + place.slot

-- whether a live record stands in the block, in a slot of a lower number
abbrev pub is_passed : Geometry → ℕ → ℕ → Option Placed → Bool
is_passed g block cursor None = false
is_passed g block cursor (Some placed) = block_of g placed.place.page == block && nat_lt (number_of g placed.place) cursor

-- how many live records of the block were passed
abbrev pub passed_count : Geometry → List (List ℕ) → ℕ → ℕ → ℕ
passed_count g cells block cursor = count_by (λ sector. is_passed g block cursor (live_record g cells sector)) (range_with_len 0 g.sectors)

-- the reads of getting those that were passed
abbrev pub passed_gets : Geometry → List (List ℕ) → ℕ → ℕ → ℕ
passed_gets g cells block cursor =
    sum_by (λ sector. if is_passed g block cursor (live_record g cells sector) then get_reads g (live_record g cells sector) else 0) (range_with_len 0 g.sectors)

-- The live records of a block in the slots of a lower number, by page and then by slot.
pub record Scanned (g : Geometry) (cells : List (List ℕ)) (block cursor : ℕ) (records : List Placed) : Type 0 where
  pub live : (i : ℕ) → i < length records → live_record g cells (nth records i).header.sector ≡ Some (nth records i)
  pub inside : (i : ℕ) → i < length records → block_of g (nth records i).place.page ≡ block
  pub passed : (i : ℕ) → i < length records → number_of g (nth records i).place < cursor
  pub ordered : (i j : ℕ) → i < j → j < length records → number_of g (nth records i).place < number_of g (nth records j).place
  pub all : (sector : ℕ) (placed : Placed) → live_record g cells sector ≡ Some placed → block_of g placed.place.page ≡ block → number_of g placed.place < cursor
      → (i : ℕ) × (i < length records) × (nth records i ≡ placed)
  pub count : length records ≡ passed_count g cells block cursor

-- A record was copied: the copy stands behind its gate on its page of the spare and says what the record says, with the main
-- cells of a first write, and the further slots of that page are blank.
pub record IsCopied (g : Geometry) (d : Decoding) (old new : List (List ℕ)) (spare seq : ℕ) (placed : Placed) (i : ℕ) : Type 0 where
  pub there : record_in g new (copy_of g spare seq placed i).place ≡ Some (copy_of g spare seq placed i).header
  pub gated : is_gate_charged (spare_at g new (spare * g.pages + i)) 0 ≡ true
  pub says : said_by g d new (Some (copy_of g spare seq placed i)) ≡ said_by g d old (Some placed)
  pub cells : InCells g d new (spare * g.pages + i) placed.header (said_by g d old (Some placed))
  pub further : (slot : ℕ) → 1 ≤ slot → slot < g.generations → is_slot_blank (spare_at g new (spare * g.pages + i)) slot ≡ true

-- What stands in the cells while a spare takes the copies of these records.
pub record Taking (g : Geometry) (d : Decoding) (spare seq : ℕ) (old new : List (List ℕ)) (records : List Placed) : Type 0 where
  -- every block but the spare has the cells that it had before
  pub others : (page : ℕ) → block_of g page ≢ spare → page_at new page ≡ page_at old page
  pub unsealed : is_sealed g new spare ≡ false
  -- the valid headers of the spare are those of the copies
  pub headers : (place : Place) (h : Header) → block_of g place.page ≡ spare → header_in g new place ≡ Some h
      → (i : ℕ) × (i < length records) × (place ≡ (copy_of g spare seq (nth records i) i).place) × (h ≡ (copy_of g spare seq (nth records i) i).header)
  pub copied : (i : ℕ) → i < length records → IsCopied g d old new spare seq (nth records i) i
  -- the pages of the spare from the next one on are blank
  pub blank : (i : ℕ) → length records ≤ i → i < g.pages → is_blank (page_at new (spare * g.pages + i)) ≡ true
  -- so no record of the spare is committed, and all live records are as before
  pub live : (sector : ℕ) → live_record g new sector ≡ live_record g old sector

-- A collection has copied these records into the spare.
pub record Inside (g : Geometry) (d : Decoding) (spare : ℕ) (start now : Store) (records : List Placed) : Type 0 where
  pub taking : Taking g d spare start.seq start.die.cells now.die.cells records
  pub table : now.table ≡ start.table
  -- the spare is not known to be blank from just before the first copy on
  pub book : ((now.book ≡ start.book) × (length records ≡ 0)) ⊎ (now.book ≡ with_state start.book spare (Spare false))
  pub seq : now.seq ≡ start.seq + length records
  pub holds : Holds g start now

-- A collection has scanned the victim's slots up to a cursor, on so many pages, and copied the live records that it met.
pub record Reached (g : Geometry) (d : Decoding) (victim spare : ℕ) (start now : Store) (cursor pages copies : ℕ) (moves : List Move) : Type 0 where
  pub records : List Placed
  pub inside : Inside g d spare start now records
  pub scanned : Scanned g start.die.cells victim cursor records
  pub copied : copies ≡ length records
  pub moved : (i : ℕ) → i < length records → slice_index_or moves i no_move ≡ move_of (nth records i)
  pub passed : Passed (2 * copies) (pages + passed_gets g start.die.cells victim cursor) start.die now.die

-- It stopped at a read that failed.
pub record ReadStopped (g : Geometry) (d : Decoding) (victim spare : ℕ) (start now : Store) : Type 0 where
  pub holds : Holds g start now
  pub failed : CollectReadFailed g d victim spare start now

-- It stopped at a change call that failed.
pub record ChangeStopped (g : Geometry) (d : Decoding) (victim spare : ℕ) (start now : Store) : Type 0 where
  pub holds : Holds g start now
  pub failed : CollectChangeFailed g d victim spare start now

-- What a collection begins with, once its spare is blank.
pub record Begun (g : Geometry) (victim spare : ℕ) (start : Store) : Type 0 where
  pub tables : IsTrueStore g start
  pub shape : start.die.shape ≡ shape_of g
  pub fresh : start.seq < 2 ^ 62
  pub some_pages : 0 < g.pages
  pub victim_there : victim < g.blocks
  pub spare_there : spare < g.blocks
  pub apart : victim ≢ spare
  pub closed : IsClosed start.book victim
  pub is_spare : state_at start.book spare ≡ Spare true
  pub none_active : NoneActive start.book
  -- the victim's live records fit a block, with a page left
  pub few : live_at start.book victim < g.pages

-- A collection stands before a slot of its victim, on so many pages scanned, with room for the moves of a block.
pub record Stands (g : Geometry) (meaning : Meaning) (spare : ℕ) (start now : Store) (place : Place) (pages copies : ℕ) (moves : List Move) : Type 0 where
  pub begun : Begun g (block_of g place.page) spare start
  pub reached : Reached g meaning.decoding (block_of g place.page) spare start now (number_of g place) pages copies moves
  pub slot : place.slot < g.generations
  pub few_pages : pages ≤ g.pages
  pub room : g.pages ≤ length moves
  pub span : meaning.span ≡ g.span
  pub bytes : meaning.page_bytes ≡ g.main_bytes

-- how a turn ends: so many copies are made, or a call failed
abbrev pub TurnEnds : Geometry → Decoding → ℕ → ℕ → Store → Store → ℕ → ℕ → List Move → Result ℕ PutFault → Type 0
TurnEnds g d victim spare start now cursor pages moves (Ok copies) = Reached g d victim spare start now cursor pages copies moves
TurnEnds g d victim spare start now cursor pages moves (Err Read) = ReadStopped g d victim spare start now
TurnEnds g d victim spare start now cursor pages moves (Err Change) = ChangeStopped g d victim spare start now

-- before a slot of a page that was scanned
abbrev pub StandsAt : Shape → Meaning → ℕ → ℕ → Store → Store → Place → ℕ → List Move → Type 0
StandsAt shape meaning sectors spare start now place copies moves = Stands (geometry_of shape meaning sectors) meaning spare start now place (place.page % shape.pages + 1) copies moves

-- how a turn on a page ends, whose next slot has this number in its page
abbrev pub EndsAt : Shape → Meaning → ℕ → ℕ → Store → Store → ℕ → ℕ → List Move → Result ℕ PutFault → Type 0
EndsAt shape meaning sectors spare start now page slot moves result =
    TurnEnds (geometry_of shape meaning sectors) meaning.decoding (page / shape.pages) spare start now (page % shape.pages * meaning.generations + slot) (page % shape.pages + 1) moves result

-- how a collection ends
abbrev pub CollectEnds : Geometry → Decoding → ℕ → ℕ → Store → Store → Result ℕ PutFault → Type 0
CollectEnds g d victim spare old new (Ok moved) = (moved ≡ live_at old.book victim) × Collected g d victim spare old new
CollectEnds g d victim spare old new (Err Read) = CollectReadFailed g d victim spare old new
CollectEnds g d victim spare old new (Err Change) = CollectChangeFailed g d victim spare old new
