-- Where a turn of a collection stands on its desk, and how it ends.
use Rattle.std.specs.Prelude.{ℕ, ◌*◌, ◌%◌, List, length, Option, Result}
use Rattle.cell_die.specs.DieState.{DieState}
use Rattle.striped.specs.Meaning.{Meaning}
use Rattle.sector_map.specs.declared.entry.Entry.{Entry}
use Rattle.page_codec.specs.declared.fault.PutFault.{PutFault}
use Rattle.page_codec.specs.Puts.{first_slot}
use Rattle.collector.specs.declared.desk.Desk.{Desk}
use Rattle.collector.specs.declared.moves.Move.{Move}
use Rattle.collector.specs.declared.scan.Turn.{Turn}
use Rattle.collector.specs.Desk.{geometry_on, store_on}
use Rattle.collector.specs.Inside.{Begun, Stands, StandsAt, EndsAt, TurnEnds, CollectEnds}
use Rattle.collector.specs.Store.{Store}

module _ {D C : Type 0} (state : D → DieState) (meaning : C → Meaning) where
  -- before the page of the turn, which is not scanned yet
  abbrev pub BeforePage : Desk D C → List (Option Entry) → Store → Turn → List Move → Type 0
  BeforePage desk table start turn moves = Stands (geometry_on state meaning desk table) (meaning desk.scheme.now) turn.spare start (store_on state desk table)
      (first_slot turn.page) (turn.page % (state desk.die.now).shape.pages) turn.copies moves

  -- before a slot of the page, which was scanned
  abbrev pub BeforeSlot : Desk D C → List (Option Entry) → Store → Turn → ℕ → List Move → Type 0
  BeforeSlot desk table start turn slot moves = StandsAt (state desk.die.now).shape (meaning desk.scheme.now) (length table) turn.spare start (store_on state desk table)
      (record { page = turn.page; slot = slot }) turn.copies moves

  -- how the turn ends before a slot of the page
  abbrev pub EndsBefore : Desk D C → Desk D C → List (Option Entry) → Store → Turn → ℕ → List Move → Result ℕ PutFault → Type 0
  EndsBefore old new table start turn slot moves result = EndsAt (state old.die.now).shape (meaning old.scheme.now) (length table) turn.spare start (store_on state new table)
      turn.page slot moves result

  -- what a collection begins with, once its spare is blank
  abbrev pub DeskBegins : ℕ → ℕ → Desk D C → List (Option Entry) → Type 0
  DeskBegins victim spare desk table = Begun (geometry_on state meaning desk table) victim spare (store_on state desk table)

  -- how the scan of the whole victim ends
  abbrev pub DeskScans : ℕ → ℕ → List Move → Result ℕ PutFault → Desk D C → Desk D C → List (Option Entry) → Type 0
  DeskScans victim spare moves result old new table = TurnEnds (geometry_on state meaning old table) (meaning old.scheme.now).decoding victim spare
      (store_on state old table) (store_on state new table) ((state old.die.now).shape.pages * (meaning old.scheme.now).generations) (state old.die.now).shape.pages moves result

  -- how a collection ends
  abbrev pub DeskCollects : ℕ → ℕ → Result ℕ PutFault → Desk D C → List (Option Entry) → Desk D C → List (Option Entry) → Type 0
  DeskCollects victim spare result old table new after =
      CollectEnds (geometry_on state meaning old table) (meaning old.scheme.now).decoding victim spare (store_on state old table) (store_on state new after) result
