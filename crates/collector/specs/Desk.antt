-- What a call on a desk may rely on, and what it keeps.
use Rattle.std.specs.Prelude.{◌≡◌, ℕ, ◌≤◌, ◌<◌, ◌+◌, ◌^◌, true, List, length, Option, Result}
use Rattle.zero_count.specs.declared.Header.{Header}
use Rattle.cell_die.specs.Cells.{is_blank}
use Rattle.cell_die.specs.DieState.{DieState, page_count, page_of}
use Rattle.cell_die.specs.Calls.{Kept}
use Rattle.striped.specs.Meaning.{Meaning}
use Rattle.sector_map.specs.declared.entry.Entry.{Entry}
use Rattle.block_state.specs.Book.{IsSpare}
use Rattle.page_codec.specs.Geometry.{Geometry}
use Rattle.page_codec.specs.declared.place.Place.{Place}
use Rattle.page_codec.specs.declared.fault.PutFault.{PutFault}
use Rattle.page_codec.specs.Sizes.{Serves, ServesScheme}
use Rattle.collector.specs.declared.desk.Desk.{Desk}
use Rattle.collector.specs.declared.live.LiveRecord.{LiveRecord}
use Rattle.collector.specs.Again.{AgainEnds, MoveEnds}
use Rattle.collector.specs.Steps.{CopyEnds}
use Rattle.collector.specs.Store.{Store, store, geometry_of, IsTrueStore, Holds}

-- the desk holds the references that it held
abbrev pub SameDesk : {D C : Type 0} → Desk D C → Desk D C → Type 0
SameDesk old new = (new.die.ghost_name ≡ old.die.ghost_name) × (new.scheme.ghost_name ≡ old.scheme.ghost_name) × (new.work.ghost_name ≡ old.work.ghost_name)
    × (new.book.ghost_name ≡ old.book.ghost_name) × (new.seq.ghost_name ≡ old.seq.ghost_name)

module _ {D C : Type 0} (state : D → DieState) where
  -- A record may be put on a page.
  pub record IsFree (desk : Desk D C) (page : ℕ) : Type 0 where
    pub there : page < page_count (state desk.die.now).shape
    pub blank : is_blank (page_of (state desk.die.now) page) ≡ true

  -- A page of the spare is ready for a copy.
  pub record IsReady (desk : Desk D C) (spare page : ℕ) : Type 0 where
    pub free : IsFree desk page
    pub is_spare : IsSpare desk.book.now spare
    pub fresh : desk.seq.now + 1 < 2 ^ 64

  -- what the desk and a map stand for
  abbrev pub store_on : Desk D C → List (Option Entry) → Store
  store_on desk table = store (state desk.die.now) table desk.book.now desk.seq.now

module _ {D C : Type 0} (state : D → DieState) (meaning : C → Meaning) where
  -- The room of the codec serves the die and the scheme, whose sectors are small.
  pub record Fits (desk : Desk D C) : Type 0 where
    pub die : Serves desk.work.now (state desk.die.now).shape
    pub scheme : ServesScheme desk.work.now (meaning desk.scheme.now)
    pub small_sector : (meaning desk.scheme.now).sector_bytes ≤ 512

  -- What a call on the desk keeps, whatever its outcome.
  pub record Stays (old new : Desk D C) : Type 0 where
    pub kept : Kept (state old.die.now) (state new.die.now)
    pub erases : (state new.die.now).erases ≡ (state old.die.now).erases
    pub scheme : meaning new.scheme.now ≡ meaning old.scheme.now
    pub work : new.work.now ≡ old.work.now

  -- how a copy ends on the desk
  abbrev pub DeskCopies : {T : Type 0} → ℕ → ℕ → Place → Header → Result T PutFault → Desk D C → Desk D C → Type 0
  DeskCopies spare page place header result old new = CopyEnds (meaning old.scheme.now) spare page place header result (state old.die.now) old.book.now old.seq.now
      (state new.die.now) new.book.now new.seq.now

  -- how a record is put again by the desk, whose book stays
  abbrev pub DeskPutsAgain : {T : Type 0} → LiveRecord → ℕ → Result T PutFault → Desk D C → Desk D C → Type 0
  DeskPutsAgain live page result old new = AgainEnds (meaning old.scheme.now) live page result (state old.die.now) old.seq.now (state new.die.now) new.seq.now

  -- the desk and a map, as a device
  abbrev pub geometry_on : Desk D C → List (Option Entry) → Geometry
  geometry_on desk table = geometry_of (state desk.die.now).shape (meaning desk.scheme.now) (length table)

  -- the map and the book are true to the cells
  abbrev pub DeskTrue : Desk D C → List (Option Entry) → Type 0
  DeskTrue desk table = IsTrueStore (geometry_on desk table) (store_on state desk table)

  -- what every call keeps, of the desk and of the map
  abbrev pub DeskHolds : Desk D C → List (Option Entry) → Desk D C → List (Option Entry) → Type 0
  DeskHolds old table new after = Holds (geometry_on old table) (store_on state old table) (store_on state new after)

  -- how the move of a live record to a page ends
  abbrev pub DeskMoves : {T : Type 0} → LiveRecord → ℕ → Result T PutFault → Desk D C → List (Option Entry) → Desk D C → List (Option Entry) → Type 0
  DeskMoves live page result old table new after = MoveEnds (geometry_on old table) (meaning old.scheme.now) live page result (store_on state old table) (store_on state new after)
