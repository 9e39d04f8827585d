-- The row of a map's entry is the stored sector, and the pages of a held record are pages of the die.
use Rattle.std.proofs.Common.{◌≡◌, inl, ℕ, ◌+◌, ◌-◌, ◌<◌, ◌≤◌, Bool, true, false, List, [], length, if◌then◌else◌, ◌==◌, Option, Some, None, refl, sym, ap, ◌∙◌, subst, arith}
use Rattle.std.specs.Prelude.{slice_index_or}
use Rattle.cell_die.specs.declared.shape.Shape.{Shape}
use Rattle.cell_die.specs.Calls.{Kept}
use Rattle.cell_die.specs.Changes.{SameCells}
use Rattle.cell_die.specs.DieState.{DieState, page_count}
use Rattle.cell_die.specs.Pads.{NoPadCharged}
use Rattle.striped.specs.Meaning.{Meaning}
use Rattle.sector_map.specs.declared.entry.Entry.{Entry}
use Rattle.sector_map.specs.Entry.{entry_at}
use Rattle.block_state.specs.Book.{BookValue}
use Rattle.page_codec.specs.Geometry.{Geometry, block_of, shape_of}
use Rattle.page_codec.specs.Records as records
use Rattle.page_codec.specs.Records.{live_record, header_in}
use Rattle.page_codec.specs.Sectors.{says_zeros, said_by, stored}
use Rattle.page_codec.specs.Sizes.{Sizes}
use Rattle.page_codec.specs.Sound.{IsSound}
use Rattle.page_codec.specs.TrueBook.{IsTrue, entry_of}
use Rattle.collector.specs.Store.{geometry_of, store, IsTrueStore, Holds}
use Rattle.collector.proofs.Rows.{row_of}
use Rattle.collector.proofs.Room as room
use Rattle.collector.specs.Moves.{get_reads}
use Rattle.rssd_core.specs.Held.{Held, IsHeld, held}
use Rattle.rssd_core.specs.Steps.{IsSized}
use Rattle.rssd_core.specs.EntryRow.{entry_row, entry_reads, HasPages}
use Rattle.rssd_core.proofs.RecordLaws.{entry_is, block_below}
use Rattle.rssd_core.proofs.Wiping.{read_in_block, page_below}

row_is : (die : DieState) (meaning : Meaning) (sectors : ℕ) (o : Option records.Placed)
    → entry_row meaning die (entry_of o) ≡ said_by (geometry_of die.shape meaning sectors) meaning.decoding die.cells o
row_is die meaning sectors None = refl
row_is die meaning sectors (Some placed) = at (says_zeros placed.header) refl
  where
    g : Geometry
    g = geometry_of die.shape meaning sectors

    at : (t : Bool) → says_zeros placed.header ≡ t
        → entry_row meaning die (entry_of (Some placed)) ≡ said_by (geometry_of die.shape meaning sectors) meaning.decoding die.cells (Some placed)
    at true zeros = rw zeros refl
    at false bytes = rw bytes refl

reads_are : (shape : Shape) (meaning : Meaning) (sectors : ℕ) (o : Option records.Placed) → entry_reads meaning (entry_of o) ≡ get_reads (geometry_of shape meaning sectors) o
reads_are shape meaning sectors None = refl
reads_are shape meaning sectors (Some placed) = at (says_zeros placed.header) refl
  where
    at : (t : Bool) → says_zeros placed.header ≡ t → entry_reads meaning (entry_of (Some placed)) ≡ get_reads (geometry_of shape meaning sectors) (Some placed)
    at true zeros = rw zeros refl
    at false bytes = rw bytes refl

module _ (die : DieState) (meaning : Meaning) (table : List (Option Entry)) (book : BookValue) (seq sector : ℕ) (sized : IsSized (geometry_of die.shape meaning (length table)))
    (tables : IsTrue (geometry_of die.shape meaning (length table)) die.cells book table seq) (within : sector < length table) where
  abbrev g : Geometry
  g = geometry_of die.shape meaning (length table)

  entry_live : entry_at table sector ≡ entry_of (live_record (geometry_of die.shape meaning (length table)) die.cells sector)
  entry_live = ap (λ (t : List (Option Entry)). entry_at t sector) tables.entries ∙ entry_is (geometry_of die.shape meaning (length table)) die.cells sector within

  pub entry_row_is : entry_row meaning die (entry_at table sector) ≡ slice_index_or (stored (geometry_of die.shape meaning (length table)) meaning.decoding die.cells) sector []
  entry_row_is =
      ap (entry_row meaning die) entry_live
      ∙ (row_is die meaning (length table) (live_record (geometry_of die.shape meaning (length table)) die.cells sector)
      ∙ sym (row_of (geometry_of die.shape meaning (length table)) meaning.decoding die.cells sector within))

  pub entry_reads_are : entry_reads meaning (entry_at table sector)
      ≡ get_reads (geometry_of die.shape meaning (length table)) (live_record (geometry_of die.shape meaning (length table)) die.cells sector)
  entry_reads_are = ap (entry_reads meaning) entry_live ∙ reads_are die.shape meaning (length table) (live_record (geometry_of die.shape meaning (length table)) die.cells sector)

  -- the last page that a held record is read from stands in its block
  pages_in : (o : Option records.Placed) → live_record (geometry_of die.shape meaning (length table)) die.cells sector ≡ o → HasPages meaning die.shape (entry_of o)
  pages_in None e = tt
  pages_in (Some placed) e = at (says_zeros placed.header) refl
    where
      last : (n : ℕ) → 0 < n → ((i : ℕ) → i < n
          → block_of (geometry_of die.shape meaning (length table)) (placed.place.page + i) ≡ block_of (geometry_of die.shape meaning (length table)) placed.place.page)
          → placed.place.page + n ≤ page_count die.shape
      last n some inside =
          let here = room.live_within (geometry_of die.shape meaning (length table)) die.cells sector placed (omega (arith, sized.two_slots)) e in
          let block = block_below (geometry_of die.shape meaning (length table)) placed.place.page sized.pages here.0 in
          omega (
            arith,
            page_below (geometry_of die.shape meaning (length table)) (block_of (geometry_of die.shape meaning (length table)) placed.place.page)
                (placed.place.page + (n - 1)) sized.pages block (inside (n - 1) (omega arith)),
          )

      some_reads : (t : Bool) → 0 < (if t then 1 else meaning.span)
      some_reads true = omega arith
      some_reads false = sized.span

      at : (t : Bool) → says_zeros placed.header ≡ t → HasPages meaning die.shape (entry_of (Some placed))
      at true zeros = rw zeros tt
      at false bytes = rw bytes (last (if placed.place.slot == 0 then 1 else meaning.span) (some_reads (placed.place.slot == 0))
          (λ i below. read_in_block (geometry_of die.shape meaning (length table)) die.cells sector i placed sized e below))

  pub entry_pages : HasPages meaning die.shape (entry_at table sector)
  entry_pages = subst (HasPages meaning die.shape) (sym entry_live) (pages_in (live_record (geometry_of die.shape meaning (length table)) die.cells sector) refl)

-- ---- a read of a store

-- a read that changes no cell keeps all
pub read_holds : (g : Geometry) (table : List (Option Entry)) (book : BookValue) (seq : ℕ) {die new : DieState}
    → SameCells die new → Kept die new → Holds g (store die table book seq) (store new table book seq)
read_holds g table book seq same kept = record {
  kept = kept;
  pads = subst (NoPadCharged (shape_of g)) (sym same.cells);
  sound = subst (IsSound g) (sym same.cells);
  seqs = omega arith;
  drew = λ why place h e. inl (ap (λ (cells : List (List ℕ)). header_in g cells place) (sym same.cells) ∙ e);
}

pub read_tables : (g : Geometry) {die new : DieState} {table : List (Option Entry)} {book : BookValue} {seq : ℕ}
    → SameCells die new → IsTrueStore g (store die table book seq) → IsTrueStore g (store new table book seq)
read_tables g {table = table} {book = book} {seq = seq} same = subst (λ (cells : List (List ℕ)). IsTrue g cells book table seq) (sym same.cells)

-- what is so of the entry is so of the sector
module _ {C : Type 0} {meaning : C → Meaning} {sizes : Sizes} {room : ℕ} {die : DieState} {scheme : C} {table : List (Option Entry)} {book : BookValue} {seq moved sector : ℕ} {stopped : Bool}
    {old : Held C} {entry : Option Entry} (kept : IsHeld meaning sizes room (held meaning die scheme table book seq moved stopped)) (is : held meaning die scheme table book seq moved stopped ≡ old)
    (running : old.stopped ≡ false) (within : sector < old.geometry.sectors) (found : entry ≡ entry_at table sector) where
  runs : IsTrueStore (geometry_of die.shape (meaning scheme) (length table)) (store die table book seq)
  runs = kept.stands.tables (subst (λ (x : Held C). x.stopped ≡ false) (sym is) running)

  inside : sector < length table
  inside = subst (λ (x : Held C). sector < x.geometry.sectors) (sym is) within

  pub read_pages : HasPages (meaning scheme) die.shape entry
  read_pages = subst (HasPages (meaning scheme) die.shape) (sym found) (entry_pages die (meaning scheme) table book seq sector kept.stands.sized runs inside)

  pub read_row : entry_row (meaning scheme) die entry ≡ slice_index_or (stored old.geometry (meaning old.scheme).decoding old.cells.die.cells) sector []
  read_row = subst (λ (x : Held C). entry_row (meaning scheme) die entry ≡ slice_index_or (stored x.geometry (meaning x.scheme).decoding x.cells.die.cells) sector []) is
      (ap (entry_row (meaning scheme) die) found ∙ entry_row_is die (meaning scheme) table book seq sector kept.stands.sized runs inside)

  pub read_calls : (P : ℕ → DieState → Type 0) → P (entry_reads (meaning scheme) entry) die → P (get_reads old.geometry (live_record old.geometry old.cells.die.cells sector)) old.cells.die
  read_calls P made = subst (λ (x : Held C). P (get_reads x.geometry (live_record x.geometry x.cells.die.cells sector)) x.cells.die) is
      (subst (λ (n : ℕ). P n die) (ap (entry_reads (meaning scheme)) found ∙ entry_reads_are die (meaning scheme) table book seq sector kept.stands.sized runs inside) made)
