-- At a slot with a live record there is a blank page left for its copy, and room to note it.
use Rattle.std.proofs.Common.{◌≡◌, inl, inr, ℕ, ◌+◌, ◌-◌, ◌*◌, ◌%◌, ◌^◌, ◌<◌, ◌≤◌, true, false, List, length, drop, ◌==◌, if◌then◌else◌, slice_set, Some, Ok, Err, refl, sym, ap, ap₂, ◌∙◌, subst}
use Rattle.std.proofs.Common.{arith}
use Rattle.std.proofs.lemmas.Bool.{cases_eq, cond-true, cond-false, eq-eqb, ne_eqb}
use native.Mathlib.Nat.{mul-le-mul_right, suc-mul}
use Rattle.zero_count.specs.declared.Header.{Header}
use Rattle.zero_count.specs.HeaderWord.{header_of}
use Rattle.cell_die.specs.Cells.{page_at, is_blank}
use Rattle.cell_die.specs.DieState.{DieState, IsShaped}
use Rattle.cell_die.specs.Calls.{Kept}
use Rattle.spare_gate.specs.Slots.{word_at}
use Rattle.striped.specs.Meaning.{Meaning, Decodes}
use Rattle.sector_map.specs.Entry.{entry_at}
use Rattle.block_state.specs.Book.{BookValue, IsSpare, live_at}
use Rattle.page_codec.specs.declared.place.Place.{Place}
use Rattle.page_codec.specs.declared.fault.PutFault.{PutFault}
use Rattle.page_codec.specs.declared.fault.PutFault.TheVariants.{Read, Change}
use Rattle.page_codec.specs.Geometry.{Geometry, block_of, page_count}
use Rattle.page_codec.specs.Puts.{first_slot, is_gated}
use Rattle.page_codec.specs.Records.{Placed, may_hold, header_in, live_record}
use Rattle.page_codec.specs.TrueBook.{live_map}
use Rattle.page_codec.specs.Units.{reads_of}
use Rattle.page_codec.proofs.Live.{holds_within}
use Rattle.collector.specs.declared.moves.Move.{Move}
use Rattle.collector.specs.Collections.{collection_reads, get_reads}
use Rattle.page_codec.specs.Sectors.{says_zeros}
use Rattle.collector.specs.Inside.{Stands, TurnEnds, Reached, ReadStopped, number_of, passed_gets}
use Rattle.collector.specs.Named.{names_slot}
use Rattle.collector.specs.Settles.{move_of}
use Rattle.collector.specs.Says.{SaysSame}
use Rattle.collector.specs.Steps.{PutsDrawn, copied_header, copy_reads, CopyEnds}
use Rattle.collector.specs.Store.{Store, store}
use Rattle.collector.proofs.Committed.{live_so}
use Rattle.collector.proofs.CopySteps.{Copies}
use Rattle.collector.proofs.Elsewhere.{span_of_unit, unit_stays, unit_page_from_slot}
use Rattle.collector.proofs.Named.{named_there, unnamed_none}
use Rattle.collector.proofs.Passing.{count_take, count_few, gets_take, gets_few}
use Rattle.collector.proofs.Reaching.{two_slots, live_is, spare_still}
use Rattle.collector.proofs.Shapes.{page_there}
use Rattle.collector.proofs.Stops.{reached_skip, reached_take, read_stops, change_stops}

-- the live record in a slot
abbrev pub placed_at : Place → Header → Placed
placed_at place h = record { place = place; header = h }

module _ {g : Geometry} {meaning : Meaning} {spare : ℕ} {start now : Store} {place : Place} {pages copies : ℕ} {moves : List Move} (s : Stands g meaning spare start now place pages copies moves) where
  one_slot : 1 ≤ g.generations
  one_slot = omega (arith, two_slots g meaning.decoding (block_of g place.page) spare start s.begun)

  -- the victim's cells are as they were
  header_was : header_in g start.die.cells place ≡ header_in g now.die.cells place
  header_was = ap (λ (bytes : List ℕ). header_of (word_at (drop g.main_bytes bytes) place.slot)) (sym (s.reached.inside.taking.others place.page s.begun.apart))

  table_is : now.table ≡ live_map g start.die.cells
  table_is = s.reached.inside.table ∙ s.begun.tables.entries

  next_number : number_of g place + 1 ≡ place.page % g.pages * g.generations + (place.slot + 1)
  next_number = sum (place.page % g.pages * g.generations) place.slot
    where
      sum : (a b : ℕ) → a + b + 1 ≡ a + (b + 1)
      sum a b = omega arith

  pub found_spare : IsSpare now.book spare
  found_spare = spare_still g meaning.decoding (block_of g place.page) spare start s.begun now s.reached.records s.reached.inside

  pub found_pages : now.book.pages ≡ g.pages
  found_pages = elim s.reached.inside.book [
    | inl unmarked ↦ ap (λ (v : BookValue). v.pages) unmarked.0 ∙ s.begun.tables.sizes.pages
    | inr marked ↦ ap (λ (v : BookValue). v.pages) marked ∙ s.begun.tables.sizes.pages
  ]

  -- the page of the next copy
  pub found_at : {n : ℕ} → n ≡ now.book.pages → spare * n + copies ≡ spare * g.pages + copies
  found_at same = ap (λ (n : ℕ). spare * n + copies) (same ∙ found_pages)

  -- no live record in the slot
  pub slot_skipped : ((h : Header) → header_in g now.die.cells place ≡ Some h → names_slot (entry_at now.table h.sector) place ≡ false)
      → Reached g meaning.decoding (block_of g place.page) spare start now (place.page % g.pages * g.generations + (place.slot + 1)) pages copies moves
  slot_skipped none =
      subst (λ (n : ℕ). Reached g meaning.decoding (block_of g place.page) spare start now n pages copies moves) next_number
      (reached_skip g meaning (block_of g place.page) spare start s.begun now (number_of g place) pages copies moves s.reached
      (unnamed_none g start.die.cells (block_of g place.page) place one_slot s.slot refl
      (λ h e. subst (λ table. names_slot (entry_at table h.sector) place ≡ false) table_is (none h (sym header_was ∙ e)))))

  module _ {h : Header} (there : header_in g now.die.cells place ≡ Some h) (named : names_slot (entry_at now.table h.sector) place ≡ true) where
    live : live_record g start.die.cells h.sector ≡ Some (placed_at place h)
    live = named_there g start.die.cells place h (header_was ∙ there) (subst (λ table. names_slot (entry_at table h.sector) place ≡ true) table_is named)

    pub found_more : copies + 1 ≤ live_at start.book (block_of g place.page)
    found_more = omega (
      arith,
      s.reached.copied,
      s.reached.scanned.count,
      count_take g start.die.cells (block_of g place.page) one_slot (number_of g place) (placed_at place h) live refl refl,
      count_few g start.die.cells (block_of g place.page) s.begun.some_pages one_slot (number_of g place + 1),
      live_is g meaning.decoding (block_of g place.page) spare start s.begun,
    )

    pub found_room : copies < g.pages
    found_room = omega (arith, found_more, s.begun.few)

    pub found_few : g.pages ≤ 128
    found_few = omega (arith, s.begun.tables.kept.few_pages, s.begun.tables.sizes.pages)

    pub found_page : {page : ℕ} → page ≡ spare * g.pages + copies → page < page_count g
    found_page is_page = let more : spare + 1 ≤ g.blocks = omega (arith, s.begun.spare_there) in omega (arith, is_page, found_room, mul-le-mul_right g.pages more, suc-mul spare g.pages)

    pub found_blank : {page : ℕ} → page ≡ spare * g.pages + copies → is_blank (page_at now.die.cells page) ≡ true
    found_blank is_page = subst (λ (q : ℕ). is_blank (page_at now.die.cells q) ≡ true) (sym (is_page ∙ ap (λ (n : ℕ). spare * g.pages + n) s.reached.copied))
        (s.reached.inside.taking.blank (length s.reached.records) (omega arith) (omega (arith, found_room, s.reached.copied)))

    pub found_seq : now.seq + 1 < 2 ^ 64
    found_seq = omega (arith, s.reached.inside.seq, s.reached.copied, found_room, found_few, s.begun.fresh)

    -- the pages that the record is got from stand on the die
    pub found_reads : place.page + reads_of meaning place ≤ page_count g
    found_reads = elim (cases_eq place.slot 0) [
      | inl first ↦ (let one : reads_of meaning place ≡ 1 = cond-true (place.slot == 0) 1 meaning.span (eq-eqb place.slot 0 first) in omega (arith, one, in_die))
      | inr later ↦ (
          let some : 1 ≤ g.span = span_of_unit g place.page (unit_page_from_slot g place holds later) in
          let whole : reads_of meaning place ≡ meaning.span = cond-false (place.slot == 0) 1 meaning.span (ne_eqb place.slot 0 later) in
          let last : block_of g (place.page + (g.span - 1)) ≡ block_of g place.page
          = unit_stays g place.page (g.span - 1) (unit_page_from_slot g place holds later) (omega (arith, some)) in
          let there = page_there g (place.page + (g.span - 1)) (block_of g place.page) s.begun.some_pages last s.begun.victim_there in
          omega (arith, whole, there, s.span, some))
    ]
      where
        holds : may_hold g place ≡ true
        holds = (live_so g start.die.cells h.sector (placed_at place h) live).so.holds

        in_die : place.page < page_count g
        in_die = (holds_within g place one_slot (live_so g start.die.cells h.sector (placed_at place h) live).so.holds).0

    reads_few : pages + passed_gets g start.die.cells (block_of g place.page) (number_of g place) + copy_reads meaning place h ≤ collection_reads g start.die.cells (block_of g place.page)
    reads_few =
        let same : copy_reads meaning place h ≡ get_reads g (Some (placed_at place h)) = ap (λ (n : ℕ). if says_zeros h then 0 else (if place.slot == 0 then 1 else n)) s.span in
        omega (
          arith,
          same,
          s.few_pages,
          gets_take g start.die.cells (block_of g place.page) one_slot (number_of g place) (placed_at place h) live refl refl,
          gets_few g start.die.cells (block_of g place.page) s.begun.some_pages one_slot (number_of g place + 1),
        )

    -- how the copy ends
    module _ (small : h.sector < 2 ^ 32) {page : ℕ} (is_page : page ≡ spare * g.pages + copies) {new : DieState} (after : BookValue) (next : ℕ) (kept : Kept now.die new)
        (shaped : IsShaped now.die) (shaped_new : IsShaped new) (decodes : Decodes meaning) where
      copies_of : PutsDrawn (SaysSame meaning now.die place h page) spare page (copied_header h now.seq) now.die now.book now.seq new after next
          → Copies g meaning (block_of g place.page) spare start now (number_of g place) s.reached.records (placed_at place h) new after next
      copies_of put = record {
        begun = s.begun;
        inside = s.reached.inside;
        scanned = s.reached.scanned;
        live = live;
        here = refl;
        at = refl;
        put = subst (λ (q : ℕ). PutsDrawn (SaysSame meaning now.die place h q) spare q (copied_header h now.seq) now.die now.book now.seq new after next)
            (is_page ∙ ap (λ (n : ℕ). spare * g.pages + n) s.reached.copied) put;
        kept = kept;
        shaped = shaped;
        shaped_new = shaped_new;
        bytes = s.bytes;
        span = s.span;
        decodes = decodes;
        small = small;
      }

      pub slot_copied : {T : Type 0} (done : T) → CopyEnds meaning spare page place h (Ok done) now.die now.book now.seq new after next
          → Reached g meaning.decoding (block_of g place.page) spare start (store new now.table after next) (place.page % g.pages * g.generations + (place.slot + 1)) pages (copies + 1)
          (slice_set moves copies (move_of (placed_at place h)))
      slot_copied done ends =
          subst (λ (n : ℕ). Reached g meaning.decoding (block_of g place.page) spare start (store new now.table after next) n pages (copies + 1)
          (slice_set moves copies (move_of (placed_at place h)))) next_number
          (reached_take g meaning (block_of g place.page) spare start s.begun now (number_of g place) pages copies moves s.reached (placed_at place h) new after next
          (copies_of ends.0)
          (subst (λ (q : ℕ). is_gated new (first_slot q) ≡ true) (is_page ∙ ap (λ (n : ℕ). spare * g.pages + n) s.reached.copied) ends.1)
          ends.2 (omega (arith, found_room, s.room)))

      pub slot_failed : (T : Type 0) (fault : PutFault) → CopyEnds {T = T} meaning spare page place h (Err fault) now.die now.book now.seq new after next
          → TurnEnds g meaning.decoding (block_of g place.page) spare start (store new now.table after next) (place.page % g.pages * g.generations + (place.slot + 1)) pages moves (Err fault)
      slot_failed T Read ends =
          subst (ReadStopped g meaning.decoding (block_of g place.page) spare start) (ap₂ (λ (v : BookValue) (n : ℕ). store new now.table v n) (sym ends.1) (sym ends.2))
          (read_stops g meaning (block_of g place.page) spare start s.begun now (number_of g place) pages copies (copy_reads meaning place h) moves new s.reached ends.0 kept ends.3 reads_few)
      slot_failed T Change ends =
          change_stops g meaning (block_of g place.page) spare start s.begun now (number_of g place) pages copies moves s.reached (placed_at place h) new after next
          (copies_of ends.0) s.few_pages ends.1
