-- A put over the offered unit of a store.
use Rattle.std.specs.Prelude.{slice_set, slice_index}
use Rattle.std.proofs.Common.{◌≡◌, ℕ, ◌+◌, ◌*◌, ◌^◌, ◌<◌, ◌≤◌, false, Bool, List, length, Option, Some, Ok, Err, refl, sym, ap, ap₂, ◌∙◌, subst, arith}
use Rattle.std.proofs.Math.Nat.{mul-le-mul}
use Rattle.cell_die.specs.DieState.{DieState, IsShaped}
use Rattle.cell_die.specs.Calls.{Kept}
use Rattle.striped.specs.Meaning.{Meaning, Decodes, IsSector}
use Rattle.wom_code.specs.declared.code.Carry.{Carry}
use Rattle.wom_code.specs.declared.code.Carry.TheVariants.{Carried, Declined}
use Rattle.sector_map.specs.declared.entry.Entry.{Entry}
use Rattle.sector_map.specs.declared.entry.Entry.TheVariants.{Held as HeldAt}
use Rattle.sector_map.specs.Entry.{entry_at}
use Rattle.block_state.specs.Book.{BookValue, live_at}
use Rattle.reuse_pool.specs.declared.unit.ReuseUnit.{ReuseUnit}
use Rattle.reuse_pool.specs.Offer.{IsOffer}
use Rattle.page_codec.specs.declared.fault.PutFault.{PutFault}
use Rattle.page_codec.specs.declared.fault.PutFault.TheVariants.{Read, Change}
use Rattle.page_codec.specs.Sizes.{Sizes}
use Rattle.page_codec.specs.Units.{SecondEnds, place_of}
use Rattle.collector.specs.Effects.{after_record, former_in, block_in, MayDrop}
use Rattle.collector.specs.Store.{geometry_of, store, IsTrueStore, Holds}
use Rattle.collector.proofs.Fresh.{same_holds}
use Rattle.rssd_core.specs.Held.{Held, IsHeld, held}
use Rattle.rssd_core.specs.Placing.{header_at}
use Rattle.rssd_core.specs.Steps.{PutOver, OverDeclined, OverReadFailed, OverChangeFailed, passing}
use Rattle.rssd_core.proofs.Passing.{offered_state}
use Rattle.rssd_core.proofs.SecondWrite.{unit_below}
use Rattle.rssd_core.proofs.OverLaws.{IsOver, over_holds, over_failed, effect_within, effect_room, effect_drops, offer_after, put_over_ends, over_declined}

-- the put of a sector over a unit of these parts, and the die after it
pub record OverHere {C : Type 0} (meaning : C → Meaning) (die : DieState) (scheme : C) (sizes : Sizes) (table : List (Option Entry)) (book : BookValue) (seq : ℕ) (unit : ReuseUnit)
    (page sector : ℕ) (bytes : List ℕ) (new : DieState) : Type 0 where
  pub over : IsOver (meaning scheme) sizes (store die table book seq) new unit page sector
  pub same : Kept die new
  pub shaped : IsShaped die
  pub shaped_new : IsShaped new
  pub decodes : Decodes (meaning scheme)
  pub sector_is : IsSector (meaning scheme) bytes

pub over_here : {C : Type 0} {meaning : C
    → Meaning} {die new : DieState} {scheme : C} {sizes : Sizes} {table : List (Option Entry)} {book : BookValue} {seq moved room : ℕ} {stopped : Bool} {old : Held C}
    {unit : ReuseUnit} {sector : ℕ} {bytes : List ℕ} {pages span : ℕ} → held meaning die scheme table book seq moved stopped ≡ old
    → IsHeld meaning sizes room (held meaning die scheme table book seq moved stopped) → old.stopped ≡ false → IsOffer old.cells.book unit → old.cells.seq < 2 ^ 62 + 2 ^ 8
    → sector < old.geometry.sectors → sector < 2 ^ 32 → length bytes ≡ old.geometry.sector_bytes → ((k : ℕ) → slice_index bytes k < 2 ^ 8) → pages ≡ book.pages → span ≡ (meaning scheme).span
    → Kept die new → IsShaped die → IsShaped new → Decodes (meaning scheme)
    → OverHere meaning die scheme sizes table book seq unit (unit.block * pages + unit.number * span) sector bytes new
over_here {unit = unit} {sector = sector} {bytes = bytes} is kept running offer small inside narrow long are_bytes pages_are span_is same shaped shaped_new decodes =
    let tables = kept.stands.tables (subst (λ (x : Held _). x.stopped ≡ false) (sym is) running) in
    record {
      over = record {
        die = kept.die;
        scheme = kept.scheme;
        sized = kept.stands.sized;
        tables = tables;
        offer = subst (λ (x : Held _). IsOffer x.cells.book unit) (sym is) offer;
        small = subst (λ (x : Held _). x.cells.seq < 2 ^ 62 + 2 ^ 8) (sym is) small;
        within = subst (λ (x : Held _). sector < x.geometry.sectors) (sym is) inside;
        narrow = narrow;
        page_is = ap₂ (λ (p s : ℕ). unit.block * p + unit.number * s) (pages_are ∙ tables.sizes.pages) span_is;
      };
      same = same;
      shaped = shaped;
      shaped_new = shaped_new;
      decodes = decodes;
      sector_is = record { long = subst (λ (x : Held _). length bytes ≡ x.geometry.sector_bytes) (sym is) long; bytes = are_bytes };
    }

module _ {C : Type 0} {meaning : C → Meaning} {die new : DieState} {scheme : C} {sizes : Sizes} {table : List
    (Option Entry)} {book : BookValue} {seq page sector : ℕ} {unit : ReuseUnit} {bytes : List ℕ}
    (here : OverHere meaning die scheme sizes table book seq unit page sector bytes new) where
  pub over_page : page < 131072
  over_page =
      let o = here.over in
      let offered = offered_state (geometry_of die.shape (meaning scheme) (length table)) die.cells book table seq unit o.tables o.offer in
      let below = unit_below (geometry_of die.shape (meaning scheme) (length table)) unit.block unit.number o.sized offered.0 offered.1.more in
      let blocks : die.shape.blocks ≤ 1024 = omega (arith, o.tables.sizes.blocks, o.tables.kept.few_blocks) in
      let pages : die.shape.pages ≤ 128 = omega (arith, o.tables.sizes.pages, o.tables.kept.few_pages) in
      omega (arith, o.page_is, below, o.sized.span, mul-le-mul blocks pages)

  -- cells above the unit's carry the sector
  module _ {carry : Carry} (is_so : carry ≡ Carried) (ends : SecondEnds (meaning scheme) (place_of page unit.slot) (header_at sector seq) bytes (Ok carry) die new) where
    ended : SecondEnds (meaning scheme) (place_of page unit.slot) (header_at sector seq) bytes (Ok Carried) die new
    ended = subst (λ (x : Carry). SecondEnds (meaning scheme) (place_of page unit.slot) (header_at sector seq) bytes (Ok x) die new) is_so ends

    abbrev entry : Entry
    entry = HeldAt (record { page = page; slot = unit.slot })

    pub carried_holds : (table' : List (Option Entry)) (book' : BookValue) → Holds (geometry_of die.shape (meaning scheme) (length table)) (store die table book seq) (store new table' book' (seq + 1))
    carried_holds table' book' = over_holds (meaning scheme) sizes (store die table book seq) new unit page sector here.over bytes here.same here.shaped here.shaped_new ended.0 table' book'

    pub carried_within : block_in book (HeldAt (record { page = page; slot = unit.slot })) < length book.states
    carried_within =
        effect_within (meaning scheme) sizes (store die table book seq) new unit page sector here.over bytes here.same here.shaped here.shaped_new ended.0 here.decodes here.sector_is ended.1 entry
        refl

    pub carried_room : live_at book (block_in book (HeldAt (record { page = page; slot = unit.slot }))) < book.generations * book.pages
    carried_room =
        effect_room (meaning scheme) sizes (store die table book seq) new unit page sector here.over bytes here.same here.shaped here.shaped_new ended.0 here.decodes here.sector_is ended.1 entry refl

    pub carried_drops : MayDrop book (former_in book (entry_at table sector))
    carried_drops =
        effect_drops (meaning scheme) sizes (store die table book seq) new unit page sector here.over bytes here.same here.shaped here.shaped_new ended.0 here.decodes here.sector_is ended.1 entry refl

    module _ {book' : BookValue} (books : book' ≡ after_record book (block_in book (HeldAt (record { page = page; slot = unit.slot }))) (former_in book (entry_at table sector))) where
      pub carried_offer : IsOffer book' unit
      carried_offer = subst (λ (b : BookValue). IsOffer b unit) (sym books)
          (offer_after (meaning scheme) sizes (store die table book seq) new unit page sector here.over bytes here.same here.shaped here.shaped_new ended.0 here.decodes here.sector_is ended.1 entry
          refl)

      module _ {table' : List (Option Entry)} {last : BookValue} (tables : table' ≡ slice_set table sector (Some (HeldAt (record { page = page; slot = unit.slot }))))
          (lasts : last ≡ passing book' unit) where
        carried_put : PutOver (geometry_of die.shape (meaning scheme) (length table)) (meaning scheme).decoding unit (header_at sector seq) bytes (store die table book seq)
            (store new table' last (seq + 1))
        carried_put =
            subst (λ (b : BookValue). PutOver (geometry_of die.shape (meaning scheme) (length table)) (meaning scheme).decoding unit (header_at sector seq) bytes (store die table book seq)
            (store new table' b (seq + 1)))
            (sym (lasts ∙ ap (λ (b : BookValue). passing b unit) books))
            (subst (λ (t : List (Option Entry)). PutOver (geometry_of die.shape (meaning scheme) (length table)) (meaning scheme).decoding unit (header_at sector seq) bytes (store die table book seq)
            (store new t (passing (after_record book (block_in book entry) (former_in book (entry_at table sector))) unit) (seq + 1))) (sym tables)
            (put_over_ends (meaning scheme) sizes (store die table book seq) new unit page sector here.over bytes here.same here.shaped here.shaped_new ended.0 here.decodes here.sector_is ended.1
            entry refl ended.2))

        pub carried_true : IsTrueStore (geometry_of die.shape (meaning scheme) (length table)) (store new table' last (seq + 1))
        carried_true = carried_put.tables

        pub carried_ends : {moved : ℕ} {stopped : Bool} {old : Held C} → held meaning die scheme table book seq moved stopped ≡ old
            → PutOver old.geometry (meaning old.scheme).decoding unit (header_at sector old.cells.seq) bytes old.cells (store new table' last (seq + 1))
        carried_ends is = subst (λ (x : Held C). PutOver x.geometry (meaning x.scheme).decoding unit (header_at sector x.cells.seq) bytes x.cells (store new table' last (seq + 1))) is carried_put

  -- no cells above the unit's do
  module _ {carry : Carry} (is_so : carry ≡ Declined) (ends : SecondEnds (meaning scheme) (place_of page unit.slot) (header_at sector seq) bytes (Ok carry) die new)
      {last : BookValue} (lasts : last ≡ passing book unit) where
    refused : SecondEnds (meaning scheme) (place_of page unit.slot) (header_at sector seq) bytes (Ok Declined) die new
    refused = subst (λ (x : Carry). SecondEnds (meaning scheme) (place_of page unit.slot) (header_at sector seq) bytes (Ok x) die new) is_so ends

    declined_put : OverDeclined (geometry_of die.shape (meaning scheme) (length table)) (meaning scheme).decoding unit bytes (store die table book seq) (store new table last seq)
    declined_put =
        subst (λ (b : BookValue). OverDeclined (geometry_of die.shape (meaning scheme) (length table)) (meaning scheme).decoding unit bytes (store die table book seq) (store new table b seq))
        (sym lasts)
        (over_declined (meaning scheme) sizes (store die table book seq) new unit page sector bytes here.over refused.0 refused.1 refused.2)

    pub declined_holds : Holds (geometry_of die.shape (meaning scheme) (length table)) (store die table book seq) (store new table last seq)
    declined_holds = same_holds (geometry_of die.shape (meaning scheme) (length table)) (store die table book seq) (store new table last seq) here.same refused.0 refl

    pub declined_true : IsTrueStore (geometry_of die.shape (meaning scheme) (length table)) (store new table last seq)
    declined_true = declined_put.tables

    pub declined_ends : {moved : ℕ} {stopped : Bool} {old : Held C} → held meaning die scheme table book seq moved stopped ≡ old
        → OverDeclined old.geometry (meaning old.scheme).decoding unit bytes old.cells (store new table last seq)
    declined_ends is = subst (λ (x : Held C). OverDeclined x.geometry (meaning x.scheme).decoding unit bytes x.cells (store new table last seq)) is declined_put

  -- a read failed
  module _ {fault : PutFault} (is_so : fault ≡ Read) (ends : SecondEnds (meaning scheme) (place_of page unit.slot) (header_at sector seq) bytes (Err fault) die new) where
    unread : SecondEnds (meaning scheme) (place_of page unit.slot) (header_at sector seq) bytes (Err Read) die new
    unread = subst (λ (x : PutFault). SecondEnds (meaning scheme) (place_of page unit.slot) (header_at sector seq) bytes (Err x) die new) is_so ends

    pub unread_holds : Holds (geometry_of die.shape (meaning scheme) (length table)) (store die table book seq) (store new table book seq)
    unread_holds = same_holds (geometry_of die.shape (meaning scheme) (length table)) (store die table book seq) (store new table book seq) here.same unread.0 refl

    pub unread_true : IsTrueStore (geometry_of die.shape (meaning scheme) (length table)) (store new table book seq)
    unread_true =
        subst (λ (cells : List (List ℕ)). IsTrueStore (geometry_of die.shape (meaning scheme) (length table)) (store (record die { cells = cells }) table book seq))
        (sym unread.0.cells) here.over.tables

    pub unread_ends : {moved : ℕ} {stopped : Bool} {old : Held C} → held meaning die scheme table book seq moved stopped ≡ old → OverReadFailed old.geometry old.cells (store new table book seq)
    unread_ends is = subst (λ (x : Held C). OverReadFailed x.geometry x.cells (store new table book seq)) is (record { same = refl; cells = unread.0; failed = unread.1 })

  -- a change call failed
  module _ {fault : PutFault} (is_so : fault ≡ Change) (ends : SecondEnds (meaning scheme) (place_of page unit.slot) (header_at sector seq) bytes (Err fault) die new) where
    failed : SecondEnds (meaning scheme) (place_of page unit.slot) (header_at sector seq) bytes (Err Change) die new
    failed = subst (λ (x : PutFault). SecondEnds (meaning scheme) (place_of page unit.slot) (header_at sector seq) bytes (Err x) die new) is_so ends

    pub failed_holds : Holds (geometry_of die.shape (meaning scheme) (length table)) (store die table book seq) (store new table book (seq + 1))
    failed_holds = over_holds (meaning scheme) sizes (store die table book seq) new unit page sector here.over bytes here.same here.shaped here.shaped_new failed.0 table book

    pub failed_ends : {moved : ℕ} {stopped : Bool} {old : Held C} → held meaning die scheme table book seq moved stopped ≡ old
        → OverChangeFailed old.geometry (meaning old.scheme).decoding unit (header_at sector old.cells.seq) bytes old.cells (store new table book (seq + 1))
    failed_ends is =
        subst (λ (x : Held C). OverChangeFailed x.geometry (meaning x.scheme).decoding unit (header_at sector x.cells.seq) bytes x.cells (store new table book (seq + 1))) is
        (over_failed (meaning scheme) sizes (store die table book seq) new unit page sector here.over bytes here.same here.shaped here.shaped_new failed.0 here.decodes here.sector_is failed.1)
