-- What a collection leaves.
use Rattle.std.specs.Prelude.{◌≡◌, ℕ, ◌+◌, ◌*◌, ◌<◌, ◌≤◌, true, false, List, length, slice_index_or, if◌then◌else◌, sum_by, Some}
use Rattle.std.specs.List.{range_with_len}
use Rattle.zero_count.specs.declared.Header.{Header}
use Rattle.cell_die.specs.Calls.{PassedWithin, ChangeFailed, ReadFailed}
use Rattle.striped.specs.Meaning.{Decoding}
use Rattle.block_state.specs.declared.state.State.{State}
use Rattle.block_state.specs.declared.state.State.TheVariants.{Spare}
use Rattle.block_state.specs.Book.{BookValue, state_at, live_at, with_state}
use Rattle.page_codec.specs.Geometry.{Geometry}
use Rattle.page_codec.specs.Records.{Placed, live_record}
use Rattle.page_codec.specs.Sectors.{says_zeros, said_by, InCells}
use Rattle.page_codec.specs.Sound.{IsSound, stands_in}
use Rattle.collector.specs.Effects.{sealed}
use Rattle.collector.specs.Moves.{ComesBefore}
pub use Rattle.collector.specs.Moves.{get_reads}
use Rattle.collector.specs.Store.{Store, IsTrueStore, SameRows}

-- the kind of a copy: 2 for bytes, 4 for zeros
abbrev pub copied_kind : Header → ℕ
copied_kind header = if says_zeros header then 4 else 2

-- a spare that is not known to be blank is erased
abbrev pub erase_calls : State → ℕ
erase_calls (Spare true) = 0
erase_calls _ = 1

-- the change calls of a collection: an erase if there is one, two for each copy, and the seal
abbrev pub collection_calls : BookValue → ℕ → ℕ → ℕ
collection_calls book victim spare = erase_calls (state_at book spare) + 2 * live_at book victim + 1

-- the reads of a collection: the victim's pages, and those of getting each live record of it
abbrev pub collection_reads : Geometry → List (List ℕ) → ℕ → ℕ
collection_reads g cells victim =
    g.pages + sum_by (λ sector. if stands_in g victim (live_record g cells sector) then get_reads g (live_record g cells sector) else 0) (range_with_len 0 g.sectors)

abbrev pub nowhere : Placed
nowhere = record { place = record { page = 0; slot = 0 }; header = record { sector = 0; seq = 0; kind = 0 } }

abbrev pub nth : List Placed → ℕ → Placed
nth records i = slice_index_or records i nowhere

-- the live records of a block, by page and then by slot
pub record AreLiveOf (g : Geometry) (cells : List (List ℕ)) (block : ℕ) (records : List Placed) : Type 0 where
  pub live : (i : ℕ) → i < length records → live_record g cells (nth records i).header.sector ≡ Some (nth records i)
  pub inside : (i : ℕ) → i < length records → stands_in g block (Some (nth records i)) ≡ true
  pub ordered : (i j : ℕ) → i < j → j < length records → ComesBefore (nth records i).place (nth records j).place
  pub all : (sector : ℕ) (placed : Placed) → live_record g cells sector ≡ Some placed → stands_in g block (Some placed) ≡ true → (i : ℕ) × (i < length records) × (nth records i ≡ placed)

-- the copy of a record on page i of a block
abbrev pub copy_of : Geometry → ℕ → ℕ → Placed → ℕ → Placed
copy_of g spare seq placed i = record {
  place = record { page = spare * g.pages + i; slot = 0 };
  header = record { sector = placed.header.sector; seq = seq + i; kind = copied_kind placed.header };
}

-- The victim was collected: its live records stand in order on the first pages of the spare, which is the Active block.
pub record Collected (g : Geometry) (d : Decoding) (victim spare : ℕ) (old new : Store) : Type 0 where
  pub records : List Placed
  pub are_live : AreLiveOf g old.die.cells victim records
  pub count : length records ≡ live_at old.book victim
  pub copied : (i : ℕ) → i < length records → live_record g new.die.cells (nth records i).header.sector ≡ Some (copy_of g spare old.seq (nth records i) i)
  pub cells : (i : ℕ) → i < length records → InCells g d new.die.cells (spare * g.pages + i) (nth records i).header (said_by g d old.die.cells (Some (nth records i)))
  pub others : (sector : ℕ) → stands_in g victim (live_record g old.die.cells sector) ≡ false → live_record g new.die.cells sector ≡ live_record g old.die.cells sector
  pub rows : SameRows g d old new
  pub book : new.book ≡ sealed old.book victim spare
  pub seq : new.seq ≡ old.seq + live_at old.book victim
  pub tables : IsTrueStore g new
  pub calls : PassedWithin (collection_calls old.book victim spare) (collection_reads g old.die.cells victim) old.die new.die

-- the spare's mark up to the seal: as it was, blank from its erase on, and not known to be blank from the first copy on
pub data Marks (book : BookValue) (spare : ℕ) : BookValue → Type 0 where
  as_it_was : Marks book spare book
  erased : state_at book spare ≡ Spare false → Marks book spare (with_state book spare (Spare true))
  copied_to : state_at book spare ≡ Spare true → Marks book spare (with_state book spare (Spare false))
  erased_and_copied_to : state_at book spare ≡ Spare false → Marks book spare (with_state (with_state book spare (Spare true)) spare (Spare false))

-- A read failed: some records were copied, of which none is committed.
pub record CollectReadFailed (g : Geometry) (d : Decoding) (victim spare : ℕ) (old new : Store) : Type 0 where
  pub copies : ℕ
  pub few : copies ≤ live_at old.book victim
  pub seq : new.seq ≡ old.seq + copies
  pub table : new.table ≡ old.table
  pub book : Marks old.book spare new.book
  pub live : (sector : ℕ) → live_record g new.die.cells sector ≡ live_record g old.die.cells sector
  pub rows : SameRows g d old new
  pub tables : IsTrueStore g new
  pub failed : ReadFailed (collection_calls old.book victim spare) (collection_reads g old.die.cells victim) old.die new.die

-- A change call failed: over sound cells the sectors are as before.
pub record CollectChangeFailed (g : Geometry) (d : Decoding) (victim spare : ℕ) (old new : Store) : Type 0 where
  pub copies : ℕ
  pub few : copies ≤ live_at old.book victim
  pub seq : new.seq ≡ old.seq + copies
  pub table : new.table ≡ old.table
  pub book : Marks old.book spare new.book
  pub rows : IsSound g old.die.cells → SameRows g d old new
  pub failed : ChangeFailed (collection_calls old.book victim spare) (collection_reads g old.die.cells victim) old.die new.die
