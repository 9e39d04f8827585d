-- A live record is put again: on the next page of the Active block, with the next seq, saying the same.
use Rattle.std.specs.Prelude.{◌≡◌, ◌≢◌, ℕ, ◌+◌, ◌-◌, ◌*◌, ◌<◌, true, List, if◌then◌else◌, Result, Ok, Err, Some}
use Rattle.zero_count.specs.declared.Header.{Header}
use Rattle.cell_die.specs.DieState.{DieState}
use Rattle.cell_die.specs.Changes.{SameCells}
use Rattle.cell_die.specs.Calls.{Passed, ChangeFailed, ReadFailed}
use Rattle.striped.specs.Meaning.{Meaning, Decoding}
use Rattle.block_state.specs.declared.state.State.TheVariants.{Active}
use Rattle.block_state.specs.Book.{BookValue, state_at}
use Rattle.page_codec.specs.declared.fault.PutFault.{PutFault}
use Rattle.page_codec.specs.declared.fault.PutFault.TheVariants.{Read, Change}
use Rattle.page_codec.specs.Geometry.{Geometry, block_of}
use Rattle.page_codec.specs.Records.{live_record}
use Rattle.page_codec.specs.Sectors.{says_zeros, said_by, InCells}
use Rattle.page_codec.specs.Puts.{Puts, first_slot, is_gated}
use Rattle.page_codec.specs.Units.{reads_of}
use Rattle.collector.specs.declared.live.LiveRecord.{LiveRecord}
use Rattle.collector.specs.Effects.{recorded, filled}
use Rattle.collector.specs.Moves.{plain_kind}
use Rattle.collector.specs.Says.{SaysSame}
use Rattle.collector.specs.Store.{Store, IsTrueStore, SameRows}

-- the page that the Active block fills next, and how many it has left
pub record IsNextPage (book : BookValue) (page room : ℕ) : Type 0 where
  pub block : ℕ
  pub fill : ℕ
  pub active : state_at book block ≡ Active fill
  pub page_is : page ≡ block * book.pages + fill
  pub room_is : room ≡ book.pages - fill

-- the header of the record that is put again
abbrev pub again : Header → ℕ → Header
again header seq = record { sector = header.sector; seq = seq; kind = plain_kind header }

-- the reads before the put: those of getting the record's bytes, where it says bytes
abbrev pub again_reads : Meaning → LiveRecord → ℕ
again_reads meaning live = if says_zeros live.header then 0 else reads_of meaning live.place

-- the put of the record on a page, which says the same, from the next seq on
abbrev pub PutsAgain : Meaning → LiveRecord → ℕ → DieState → ℕ → DieState → Type 0
PutsAgain meaning live page old seq new = Puts (SaysSame meaning old live.place live.header page) 1 (first_slot page) (again live.header seq) old new

-- how that put fails: with a failed read before a number was drawn, or with a failed change call
abbrev pub AgainFails : Meaning → LiveRecord → ℕ → PutFault → DieState → ℕ → DieState → ℕ → Type 0
AgainFails meaning live page Read old seq new next = SameCells old new × ReadFailed 0 (again_reads meaning live) old new × (next ≡ seq)
AgainFails meaning live page Change old seq new next = PutsAgain meaning live page old seq new × ChangeFailed 2 (again_reads meaning live) old new × (next ≡ seq + 1)

-- how it ends
abbrev pub AgainEnds : {A : Type 0} → Meaning → LiveRecord → ℕ → Result A PutFault → DieState → ℕ → DieState → ℕ → Type 0
AgainEnds meaning live page (Ok _) old seq new next =
    PutsAgain meaning live page old seq new × (is_gated new (first_slot page) ≡ true) × Passed 2 (again_reads meaning live) old new × (next ≡ seq + 1)
AgainEnds meaning live page (Err fault) old seq new next = AgainFails meaning live page fault old seq new next

-- the live record of a sector of the device
pub record IsLive (g : Geometry) (cells : List (List ℕ)) (live : LiveRecord) : Type 0 where
  pub sector : live.header.sector < g.sectors
  pub is : live_record g cells live.header.sector ≡ Some (record { place = live.place; header = live.header })

-- The record was moved to slot 0 of a page: it is the live one of its sector, and all sectors stay.
pub record MovedRecord (g : Geometry) (d : Decoding) (live : LiveRecord) (page : ℕ) (old new : Store) : Type 0 where
  pub there : live_record g new.die.cells live.header.sector ≡ Some (record { place = first_slot page; header = again live.header old.seq })
  pub others : (sector : ℕ) → sector ≢ live.header.sector → live_record g new.die.cells sector ≡ live_record g old.die.cells sector
  pub cells : InCells g d new.die.cells page live.header (said_by g d old.die.cells (Some (record { place = live.place; header = live.header })))
  pub rows : SameRows g d old new
  pub book : (block fill : ℕ) → state_at old.book block ≡ Active fill → new.book ≡ filled (recorded old.book block (Some (block_of g live.place.page))) block
  pub seq : new.seq ≡ old.seq + 1
  pub tables : IsTrueStore g new

-- how the move of a record fails: with a failed read and no change, or with a failed change call after which all sectors stay
abbrev pub MoveFails : Geometry → Meaning → LiveRecord → PutFault → Store → Store → Type 0
MoveFails g meaning live Read old new = (new ≡ record old { die = new.die }) × SameCells old.die new.die × ReadFailed 0 (again_reads meaning live) old.die new.die
MoveFails g meaning live Change old new =
    (new ≡ record old { die = new.die; seq = old.seq + 1 }) × SameRows g meaning.decoding old new × ChangeFailed 2 (again_reads meaning live) old.die new.die

-- how it ends
abbrev pub MoveEnds : {A : Type 0} → Geometry → Meaning → LiveRecord → ℕ → Result A PutFault → Store → Store → Type 0
MoveEnds g meaning live page (Ok _) old new = MovedRecord g meaning.decoding live page old new × Passed 2 (again_reads meaning live) old.die new.die
MoveEnds g meaning live page (Err fault) old new = MoveFails g meaning live fault old new
