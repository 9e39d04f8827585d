-- A put on the page at hand of a store, of a sector or of zeros.
use Rattle.std.specs.Prelude.{slice_set, slice_index}
use Rattle.std.proofs.Common.{◌≡◌, ℕ, ◌+◌, ◌*◌, ◌^◌, ◌<◌, true, false, Bool, List, drop, length, Option, Some, sym, subst}
use Rattle.zero_count.specs.declared.Header.{Header}
use Rattle.cell_die.specs.DieState.{DieState, IsShaped, page_of}
use Rattle.cell_die.specs.Calls.{Kept, Passed, ChangeFailed}
use Rattle.striped.specs.Meaning.{Meaning, Decodes}
use Rattle.spare_gate.specs.Slots.{is_gate_charged}
use Rattle.sector_map.specs.declared.entry.Entry.{Entry}
use Rattle.sector_map.specs.Entry.{entry_at, place_of}
use Rattle.block_state.specs.Book.{BookValue, live_at}
use Rattle.page_alloc.specs.CleanPage.{IsPageBranch}
use Rattle.page_codec.specs.Geometry.{Geometry}
use Rattle.page_codec.specs.Puts.{Puts, FirstGives, MainBlank, first_slot, is_gated}
use Rattle.page_codec.specs.Sectors.{zero_sector}
use Rattle.page_codec.specs.Sizes.{Sizes}
use Rattle.page_codec.specs.TrueBook.{entry_of}
use Rattle.collector.specs.Effects.{after_record, former_in, block_in, MayDrop}
use Rattle.collector.specs.Store.{geometry_of, store, IsTrueStore, Holds}
use Rattle.rssd_core.specs.Clearing.{zeros_header}
use Rattle.rssd_core.specs.Held.{Held, IsHeld, held}
use Rattle.rssd_core.specs.Placing.{header_at}
use Rattle.rssd_core.specs.Steps.{PutNext, PutNextFailed}
use Rattle.rssd_core.proofs.AtHand.{PutsAtHand, at_hand_holds, at_hand_failed, effect_within, effect_room, effect_drops, put_next}
use Rattle.rssd_core.proofs.Served.{IsAtHand, at_hand_page, sector_at_hand, zeros_at_hand, gate_here}

-- a put on the page at hand: its header by the next seq, and the row by the numbers
pub record PutHere {C : Type 0} (meaning : C → Meaning) (die : DieState) (scheme : C) (table : List (Option Entry)) (book : BookValue) (seq page : ℕ)
    (header : ℕ → Header) (row : Geometry → List ℕ) (new : DieState) : Type 0 where
  pub put : PutsAtHand (geometry_of die.shape (meaning scheme) (length table)) (meaning scheme).decoding page (header seq) (row (geometry_of die.shape (meaning scheme) (length table)))
      (store die table book seq) new

module _ {C : Type 0} {meaning : C → Meaning} {die : DieState} {scheme : C} {sizes : Sizes} {table : List (Option Entry)} {book : BookValue} {seq moved room : ℕ} {stopped : Bool}
    {old : Held C} {page : ℕ} (is : held meaning die scheme table book seq moved stopped ≡ old) (kept : IsHeld meaning sizes room (held meaning die scheme table book seq moved stopped))
    (running : old.stopped ≡ false) (branch : IsPageBranch old.cells.book page) where
  abbrev true_here : IsTrueStore (geometry_of die.shape (meaning scheme) (length table)) (store die table book seq)
  true_here = kept.stands.tables (subst (λ (x : Held C). x.stopped ≡ false) (sym is) running)

  abbrev branch_here : IsPageBranch book page
  branch_here = subst (λ (x : Held C). IsPageBranch x.cells.book page) (sym is) branch

  pub page_here : IsAtHand (geometry_of die.shape (meaning scheme) (length table)) die.cells page
  page_here = at_hand_page (geometry_of die.shape (meaning scheme) (length table)) die.cells book table seq page true_here branch_here

  module _ {new : DieState} {sector : ℕ} (small : old.cells.seq < 2 ^ 62 + 2 ^ 8) (inside : sector < old.geometry.sectors) (narrow : sector < 2 ^ 32)
      (shaped : IsShaped die) (shaped_new : IsShaped new) (same : Kept die new) where
    abbrev small_here : seq < 2 ^ 62 + 2 ^ 8
    small_here = subst (λ (x : Held C). x.cells.seq < 2 ^ 62 + 2 ^ 8) (sym is) small

    abbrev inside_here : sector < length table
    inside_here = subst (λ (x : Held C). sector < x.geometry.sectors) (sym is) inside

    pub sector_here : {bytes : List ℕ} → length bytes ≡ old.geometry.sector_bytes → ((k : ℕ) → slice_index bytes k < 2 ^ 8) → Decodes (meaning scheme)
        → Puts (FirstGives (meaning scheme) page bytes) 1 (first_slot page) (header_at sector seq) die new → PutHere meaning die scheme table book seq page (header_at sector) (λ _. bytes) new
    sector_here {bytes = bytes} long are_bytes decodes put = record {
      put = sector_at_hand die new (meaning scheme) sizes table book seq page sector kept.die kept.scheme kept.stands.sized same shaped shaped_new true_here branch_here small_here inside_here narrow
          bytes put decodes (record { long = subst (λ (x : Held C). length bytes ≡ x.geometry.sector_bytes) (sym is) long; bytes = are_bytes });
    }

    pub zeros_here : Puts (MainBlank die.shape.main_bytes page) 1 (first_slot page) (zeros_header sector seq) die new
        → PutHere meaning die scheme table book seq page (zeros_header sector) zero_sector new
    zeros_here put = record {
      put =
          zeros_at_hand die new (meaning scheme) sizes table book seq page sector kept.die kept.scheme kept.stands.sized same shaped shaped_new true_here branch_here small_here inside_here narrow put;
    }

-- ---- what follows of it

module _ {C : Type 0} {meaning : C → Meaning} {die new : DieState} {scheme : C} {table : List (Option Entry)} {book : BookValue} {seq page : ℕ} {header : ℕ → Header} {row : Geometry → List ℕ}
    (here : PutHere meaning die scheme table book seq page header row new) where
  abbrev g : Geometry
  g = geometry_of die.shape (meaning scheme) (length table)

  pub put_holds : (table' : List (Option Entry)) (book' : BookValue) → Holds (geometry_of die.shape (meaning scheme) (length table)) (store die table book seq) (store new table' book' (seq + 1))
  put_holds table' book' = at_hand_holds g (meaning scheme).decoding page (header seq) (row g) (store die table book seq) new here.put table' book'

  pub put_fails : {moved : ℕ} {stopped : Bool} {old : Held C} → held meaning die scheme table book seq moved stopped ≡ old → ChangeFailed 2 0 die new
      → PutNextFailed old.geometry (meaning old.scheme).decoding (header old.cells.seq) (row old.geometry) old.cells (store new table book (seq + 1))
  put_fails is failed =
      subst (λ (x : Held C). PutNextFailed x.geometry (meaning x.scheme).decoding (header x.cells.seq) (row x.geometry) x.cells (store new table book (seq + 1))) is
      (at_hand_failed g (meaning scheme).decoding page (header seq) (row g) (store die table book seq) new here.put failed)

  module _ (gated : is_gated new (first_slot page) ≡ true) {entry : Entry} (names : entry_of (Some (record { place = first_slot page; header = header seq })) ≡ Some entry)
      (at : (place_of entry).page ≡ page) where
    gate : is_gate_charged (drop die.shape.main_bytes (page_of new page)) 0 ≡ true
    gate = gate_here die new page here.put.kept.shape gated

    pub put_within : block_in book entry < length book.states
    put_within = effect_within g (meaning scheme).decoding page (header seq) (row g) (store die table book seq) new here.put gate entry names at

    pub put_room : live_at book (block_in book entry) < book.generations * book.pages
    put_room = effect_room g (meaning scheme).decoding page (header seq) (row g) (store die table book seq) new here.put gate entry names at

    pub put_drops : MayDrop book (former_in book (entry_at table (header seq).sector))
    put_drops = effect_drops g (meaning scheme).decoding page (header seq) (row g) (store die table book seq) new here.put gate entry names at

    module _ (passed : Passed 2 0 die new) {table' : List (Option Entry)} {book' : BookValue} (tables : table' ≡ slice_set table (header seq).sector (Some entry))
        (books : book' ≡ after_record book (block_in book entry) (former_in book (entry_at table (header seq).sector))) where
      put_done : PutNext (geometry_of die.shape (meaning scheme) (length table)) (meaning scheme).decoding page (header seq) (row (geometry_of die.shape (meaning scheme) (length table)))
          (store die table book seq) (store new table' book' (seq + 1))
      put_done =
          subst (λ (t : List (Option Entry)). PutNext g (meaning scheme).decoding page (header seq) (row g) (store die table book seq) (store new t book' (seq + 1))) (sym tables)
          (subst (λ (b : BookValue). PutNext g (meaning scheme).decoding page (header seq) (row g) (store die table book seq)
          (store new (slice_set table (header seq).sector (Some entry)) b (seq + 1))) (sym books)
          (put_next g (meaning scheme).decoding page (header seq) (row g) (store die table book seq) new here.put gate entry names at passed))

      pub put_stands : {moved : ℕ} {stopped : Bool} {old : Held C} → held meaning die scheme table book seq moved stopped ≡ old
          → PutNext old.geometry (meaning old.scheme).decoding page (header old.cells.seq) (row old.geometry) old.cells (store new table' book' (seq + 1))
      put_stands is = subst (λ (x : Held C). PutNext x.geometry (meaning x.scheme).decoding page (header x.cells.seq) (row x.geometry) x.cells (store new table' book' (seq + 1))) is put_done

      pub put_true : IsTrueStore (geometry_of die.shape (meaning scheme) (length table)) (store new table' book' (seq + 1))
      put_true = put_done.tables
