-- From slot to slot of a page by calls on a desk, whose numbers stay.
use Rattle.std.proofs.Common.{◌≡◌, ℕ, ◌+◌, ◌%◌, ◌<◌, ◌≤◌, List, length, drop, Option, ◌*◌, Result, Ok, Err, refl, sym, ap, ◌∙◌}
use Rattle.cell_die.specs.declared.shape.Shape.{Shape}
use Rattle.cell_die.specs.Cells.{page_at}
use Rattle.cell_die.specs.DieState.{DieState}
use Rattle.cell_die.specs.Changes.{SameCells}
use Rattle.cell_die.specs.Calls.{Kept, Passed}
use Rattle.striped.specs.Meaning.{Meaning}
use Rattle.spare_gate.specs.Slots.{header_at}
use Rattle.sector_map.specs.declared.entry.Entry.{Entry}
use Rattle.block_state.specs.Book.{BookValue}
use Rattle.page_codec.specs.declared.fault.PutFault.{PutFault}
use Rattle.page_codec.specs.Geometry.{block_of}
use Rattle.page_codec.specs.Puts.{first_slot}
use Rattle.collector.specs.declared.desk.Desk.{Desk}
use Rattle.collector.specs.declared.moves.Move.{Move}
use Rattle.collector.specs.declared.scan.Turn.{Turn}
use Rattle.collector.specs.Desk.{Stays, geometry_on, store_on}
use Rattle.collector.specs.Inside.{Begun, Stands, Reached, TurnEnds, StandsAt, EndsAt}
use Rattle.collector.specs.Store.{Store, store, geometry_of}
use Rattle.collector.specs.Turns.{BeforePage, BeforeSlot, EndsBefore}
use Rattle.collector.proofs.Pages.{moved_to, moved_back, next_slot, header_kept, page_scanned, page_before, page_after, page_failed}
use Rattle.collector.proofs.Reaching.{two_slots}

module _ {D C : Type 0} {state : D → DieState} {meaning : C → Meaning} (old new : Desk D C) (stays : Stays state meaning old new) (table : List (Option Entry)) (start : Store) where
  -- how a later call ends, by the numbers of the desk before
  pub ends_since : (last : Desk D C) (turn : Turn) (slot : ℕ) (moves : List Move) (result : Result ℕ PutFault) → EndsBefore state meaning new last table start turn slot moves result
      → EndsBefore state meaning old last table start turn slot moves result
  ends_since last turn slot moves result =
      moved_back (λ (s : Shape) (m : Meaning). EndsAt s m (length table) turn.spare start (store_on state last table) turn.page slot moves result) (state old.die.now).shape
      (state new.die.now).shape (meaning old.scheme.now) (meaning new.scheme.now) stays.kept.shape stays.scheme

  module _ (turn : Turn) (slot : ℕ) (moves : List Move) (stands : BeforeSlot state meaning old table start turn slot moves) where
    pub slots_two : 2 ≤ (meaning old.scheme.now).generations
    slots_two = two_slots (geometry_on state meaning old table) (meaning old.scheme.now).decoding (block_of (geometry_on state meaning old table) turn.page) turn.spare start stands.begun

    module _ (more : ℕ) (after : List Move) (ends : EndsBefore state meaning old new table start turn (slot + 1) after (Ok more)) where
      -- before the next slot
      pub slot_next : slot + 1 < (meaning old.scheme.now).generations → length after ≡ length moves
          → BeforeSlot state meaning new table start (record { spare = turn.spare; page = turn.page; copies = more }) (slot + 1) after
      slot_next within long =
          moved_to (λ (s : Shape) (m : Meaning). StandsAt s m (length table) turn.spare start (store_on state new table) (record { page = turn.page; slot = slot + 1 }) more after)
          (state old.die.now).shape (state new.die.now).shape (meaning old.scheme.now) (meaning new.scheme.now) stays.kept.shape stays.scheme
          (next_slot (geometry_on state meaning old table) (meaning old.scheme.now) turn.spare start (store_on state old table) (store_on state new table) turn.page slot
          (turn.page % (state old.die.now).shape.pages + 1) turn.copies more moves after stands within long ends)

      -- the headers of the page stay
      pub header_next : (n : ℕ) → header_at (drop (state old.die.now).shape.main_bytes (page_at (state old.die.now).cells turn.page)) n
          ≡ header_at (drop (state new.die.now).shape.main_bytes (page_at (state new.die.now).cells turn.page)) n
      header_next n =
          sym (header_kept (geometry_on state meaning old table) (meaning old.scheme.now) turn.spare start (store_on state old table) (store_on state new table)
          (record { page = turn.page; slot = slot }) (turn.page % (state old.die.now).shape.pages + 1) turn.copies _ more moves after stands ends n)
          ∙ ap (λ (s : Shape). header_at (drop s.main_bytes (page_at (state new.die.now).cells turn.page)) n) (sym stays.kept.shape)

  -- page i of the victim
  module _ (victim i : ℕ) (turn : Turn) (is : turn.page ≡ victim * (state old.die.now).shape.pages + i) (within : i < (state old.die.now).shape.pages) (moves : List Move) where
    pub page_next : Begun (geometry_on state meaning old table) victim turn.spare start
        → Reached (geometry_on state meaning old table) (meaning old.scheme.now).decoding victim turn.spare start (store_on state new table)
        (i * (meaning old.scheme.now).generations) i turn.copies moves
        → (state old.die.now).shape.pages ≤ length moves → (meaning old.scheme.now).page_bytes ≡ (state old.die.now).shape.main_bytes → BeforePage state meaning new table start turn moves
    page_next begun reached room bytes =
        moved_to (λ (s : Shape) (m : Meaning). Stands (geometry_of s m (length table)) m turn.spare start (store_on state new table) (first_slot turn.page) (turn.page % s.pages) turn.copies moves)
        (state old.die.now).shape (state new.die.now).shape (meaning old.scheme.now) (meaning new.scheme.now) stays.kept.shape stays.scheme
        (page_before (geometry_on state meaning old table) (meaning old.scheme.now) victim turn.spare start i turn.page is within (store_on state new table) turn.copies moves
        begun reached room refl bytes)

    module _ (last : Desk D C) where
      by_old : (result : Result ℕ PutFault) → EndsBefore state meaning new last table start turn (meaning new.scheme.now).generations moves result
          → EndsBefore state meaning old last table start turn (meaning old.scheme.now).generations moves result
      by_old result =
          moved_back (λ (s : Shape) (m : Meaning). EndsAt s m (length table) turn.spare start (store_on state last table) turn.page m.generations moves result)
          (state old.die.now).shape (state new.die.now).shape (meaning old.scheme.now) (meaning new.scheme.now) stays.kept.shape stays.scheme

      pub page_done : (result : Result ℕ PutFault) → EndsBefore state meaning new last table start turn (meaning new.scheme.now).generations moves result
          → TurnEnds (geometry_on state meaning old table) (meaning old.scheme.now).decoding victim turn.spare start (store_on state last table)
          ((i + 1) * (meaning old.scheme.now).generations) (i + 1) moves result
      page_done result ends =
          page_after (geometry_on state meaning old table) (meaning old.scheme.now) victim turn.spare start i turn.page is within (store_on state last table) moves result (by_old result ends)

      -- where a turn fails its numbers do not matter
      pub page_stopped : (fault : PutFault) → EndsBefore state meaning new last table start turn (meaning new.scheme.now).generations moves (Err fault) → (cursor pages : ℕ)
          → TurnEnds (geometry_on state meaning old table) (meaning old.scheme.now).decoding victim turn.spare start (store_on state last table) cursor pages moves (Err fault)
      page_stopped fault ends cursor pages =
          page_failed (geometry_on state meaning old table) (meaning old.scheme.now) victim turn.spare start i turn.page is within (store_on state last table) moves moves cursor pages fault
          (by_old (Err fault) ends)

-- the page of the turn was scanned
pub slot_first : {old new : DieState} {meaning : Meaning} {table : List (Option Entry)} {book : BookValue} {seq spare page copies : ℕ} {start : Store} {moves : List Move}
    → Stands (geometry_of old.shape meaning (length table)) meaning spare start (store old table book seq) (record { page = page; slot = 0 }) (page % old.shape.pages) copies moves
    → SameCells old new → Kept old new → Passed 0 1 old new → StandsAt new.shape meaning (length table) spare start (store new table book seq) (record { page = page; slot = 0 }) copies moves
slot_first {old} {new} {meaning} {table} {book} {seq} {spare} {page} {copies} {start} {moves} stands same kept passed =
    moved_to (λ (s : Shape) (m : Meaning). StandsAt s m (length table) spare start (store new table book seq) (record { page = page; slot = 0 }) copies moves) old.shape new.shape meaning meaning
    kept.shape refl (page_scanned (geometry_of old.shape meaning (length table)) meaning spare start (store old table book seq) page copies moves new stands same kept passed)
