-- How a collection ends at its seal.
use Rattle.std.proofs.Common.{◌≡◌, ◌⊎◌, inl, inr, ℕ, ◌+◌, ◌-◌, ◌*◌, ◌/◌, ◌%◌, ◌<◌, ◌≤◌, Bool, true, false, List, [], length, take, ◌==◌, Option, sym, ap, ◌∙◌, subst, arith, length-set, get_or-take}
use Rattle.std.proofs.lemmas.Bool.{cases_eq, and_parts, eq-eqb, false≢true}
use Rattle.std.proofs.lemmas.List.{ext_get_or, length-take-le}
use Rattle.std.proofs.lemmas.Nat.{div-add-mod'}
use Rattle.cell_die.specs.declared.shape.Shape.{Shape}
use Rattle.cell_die.specs.Cells.{is_charged, with_charged, charge}
use Rattle.cell_die.specs.Counts.{Stayed}
use Rattle.cell_die.specs.DieState.{DieState, IsShaped, page_of}
use Rattle.cell_die.specs.Changes.{OnlyPage}
use Rattle.cell_die.specs.Calls.{Kept, Passed, PassedWithin, ChangeFailed}
use Rattle.cell_die.specs.Pads.{NoPadCharged, is_pad, is_pad_of_slot}
use Rattle.cell_die.proofs.Sequences.{kept_trans, passed_trans, passed_within, change_failed_after, change_failed_within}
use Rattle.cell_bits.proofs.Charging.{charged_other}
use Rattle.striped.specs.Meaning.{Meaning}
use Rattle.spare_gate.specs.Slots.{seal_cell_of}
use Rattle.sector_map.specs.declared.entry.Entry.{Entry}
use Rattle.block_state.specs.Book.{BookValue, IsValid, IsSpare, IsActive, NoneActive, state_at, live_at, with_state}
use Rattle.block_state.specs.State.{is_active}
use Rattle.block_state.specs.declared.state.State.TheVariants.{Spare}
use Rattle.page_codec.specs.Geometry.{Geometry, block_of, page_count, shape_of}
use Rattle.page_codec.specs.Records.{header_in}
use Rattle.page_codec.specs.Sectors.{stored}
use Rattle.page_codec.specs.Sound.{IsSound}
use Rattle.page_codec.specs.TrueBook.{IsTrue as IsTrueTo}
use Rattle.collector.specs.declared.moves.Move.{Move}
use Rattle.collector.specs.Collections.{Collected, CollectChangeFailed, collection_calls, collection_reads, nth}
use Rattle.collector.specs.Inside.{Begun, Reached}
use Rattle.collector.specs.Settles.{move_at, no_move, NamesMoves, settled}
use Rattle.collector.specs.Store.{Store, store, Holds}
use Rattle.collector.proofs.Books.{state_here, state_there}
use Rattle.collector.proofs.Committed.{live_so}
use Rattle.collector.proofs.Named.{live_map_long}
use Rattle.collector.proofs.Passing.{count_end, gets_end, scanned_end}
use Rattle.collector.proofs.Reaching.{spare_still, spare_empty, two_slots, free_spare, fresh_start, live_is, marks_now, rows_now}
use Rattle.collector.proofs.Sealing.{Seals, copy_cells, copy_is_live, others_live, header_stays, sealed_rows, sealed_sound}
use Rattle.collector.proofs.BooksSettled.{names_whole}
use Rattle.collector.proofs.Settled.{Settles, book_is, settled_true}
use Rattle.collector.proofs.Shapes.{has_shape, page_there}
use Rattle.collector.proofs.States.{page_in_block}
use Rattle.collector.proofs.Stops.{calls_are, one_slot}

module _ {g : Geometry} (meaning : Meaning) {victim spare : ℕ} {start now : Store} {copies : ℕ} {moves : List Move} (b : Begun g victim spare start)
    (r : Reached g meaning.decoding victim spare start now (g.pages * g.generations) g.pages copies moves) where
  pub shape_now : now.die.shape ≡ shape_of g
  shape_now = r.inside.holds.kept.shape ∙ b.shape

  first_page : block_of g (spare * g.pages) ≡ spare
  first_page = ap (block_of g) (sum spare g.pages) ∙ page_in_block g spare 0 b.some_pages
    where
      sum : (a c : ℕ) → a * c ≡ a * c + 0
      sum a c = omega arith

  -- all live records of the victim are copied
  pub all_copied : length r.records ≡ live_at start.book victim
  all_copied = r.scanned.count ∙ (count_end g start.die.cells victim b.some_pages (one_slot g meaning victim spare start b) ∙ sym (live_is g meaning.decoding victim spare start b))

  pub first_there : spare * g.pages < page_count g
  first_there = page_there g (spare * g.pages) spare b.some_pages first_page b.spare_there

  -- ---- what settling asks

  pub copies_are : copies ≡ live_at start.book victim
  copies_are = r.copied ∙ all_copied

  pub copies_within : {room : ℕ} → g.pages ≤ room → length moves ≡ room → copies ≤ length moves
  copies_within few long = omega (arith, copies_are, b.few, few, long)

  pub book_pages : now.book.pages ≡ g.pages
  book_pages = elim r.inside.book [
    | inl unmarked ↦ ap (λ (v : BookValue). v.pages) unmarked.0 ∙ b.tables.sizes.pages
    | inr marked ↦ ap (λ (v : BookValue). v.pages) marked ∙ b.tables.sizes.pages
  ]

  pub spare_now : IsSpare now.book spare
  spare_now = spare_still g meaning.decoding victim spare start b now r.records r.inside

  pub victim_in : victim < length now.book.states
  victim_in = elim r.inside.book [
    | inl unmarked ↦ omega (arith, b.victim_there, b.tables.sizes.blocks, ap (λ (v : BookValue). length v.states) unmarked.0)
    | inr marked ↦ omega (arith, b.victim_there, b.tables.sizes.blocks, ap (λ (v : BookValue). length v.states) marked, length-set start.book.states spare (Spare false))
  ]

  pub none_live : live_at now.book spare ≡ 0
  none_live = live ∙ (b.tables.live_counts spare b.spare_there ∙ spare_empty g meaning.decoding victim spare start b)
    where
      live : live_at now.book spare ≡ live_at start.book spare
      live = elim r.inside.book [ inl unmarked ↦ ap (λ (v : BookValue). live_at v spare) unmarked.0 | inr marked ↦ ap (λ (v : BookValue). live_at v spare) marked ]

  pub none_active_now : NoneActive now.book
  none_active_now block active = elim r.inside.book [
    | inl unmarked ↦ b.none_active block (subst (λ (v : BookValue). IsActive v block) unmarked.0 active)
    | inr marked ↦ (let here : IsActive (with_state start.book spare (Spare false)) block = subst (λ (v : BookValue). IsActive v block) marked active in
        elim (cases_eq block spare) [
          | inl same ↦ false≢true (sym (ap is_active
              (ap (state_at (with_state start.book spare (Spare false))) same ∙ state_here start.book spare (Spare false) (omega (arith, b.spare_there, b.tables.sizes.blocks)))) ∙ here)
          | inr other ↦ b.none_active block (sym (ap is_active (state_there start.book spare block (Spare false) other)) ∙ here)
        ])
  ]

  pub sectors_in : (i : ℕ) → i < copies → (move_at (take copies moves) i).sector < length now.table
  sectors_in i h =
      let within : i < length r.records = omega (arith, h, r.copied) in
      let here : (move_at (take copies moves) i).sector ≡ (nth r.records i).header.sector = ap (λ (m : Move). m.sector) (get_or-take copies moves i no_move h ∙ r.moved i within) in
      let long : length now.table ≡ g.sectors = ap (length {A = Option Entry}) (r.inside.table ∙ b.tables.entries) ∙ live_map_long g start.die.cells in
      omega (arith, here, long, (live_so g start.die.cells (nth r.records i).header.sector (nth r.records i) (r.scanned.live i within)).within)

  -- ---- the seal is charged

  module _ {new : DieState} (shaped : IsShaped now.die) {first : ℕ} (is_first : first ≡ spare * g.pages) (only_first : OnlyPage first now.die new)
      (first_charged : page_of new first ≡ charge (page_of now.die first) (seal_cell_of now.die.shape.main_bytes)) where
    only : OnlyPage (spare * g.pages) now.die new
    only = subst (λ (q : ℕ). OnlyPage q now.die new) is_first only_first

    here : page_of new (spare * g.pages) ≡ charge (page_of now.die (spare * g.pages)) (seal_cell_of now.die.shape.main_bytes)
    here = subst (λ (q : ℕ). page_of new q ≡ charge (page_of now.die q) (seal_cell_of now.die.shape.main_bytes)) is_first first_charged

    here_g : page_of new (spare * g.pages) ≡ with_charged (page_of now.die (spare * g.pages)) (seal_cell_of g.main_bytes)
    here_g = here ∙ ap (λ (s : Shape). with_charged (page_of now.die (spare * g.pages)) (seal_cell_of s.main_bytes)) shape_now

    pub seals : Seals g meaning.decoding victim spare start.seq start.die.cells now.die.cells new.cells r.records
    seals = record {
      taking = r.inside.taking;
      only = only.others;
      here = here_g;
      room = omega (arith, (has_shape g now.die shape_now shaped).bytes (spare * g.pages) first_there, two_slots g meaning.decoding victim spare start b);
      some = b.some_pages;
      one = one_slot g meaning victim spare start b;
      fresh = fresh_start g meaning.decoding victim spare start b;
      are_live = scanned_end g start.die.cells victim b.some_pages (one_slot g meaning victim spare start b) r.records r.scanned;
      few = omega (arith, all_copied, b.few);
      apart = b.apart;
      free = free_spare g meaning.decoding victim spare start b;
    }

    first_of_block : (spare * g.pages % g.pages == 0) ≡ true
    first_of_block = eq-eqb _ _ (omega (arith, div-add-mod' (spare * g.pages) g.pages, ap (λ (q : ℕ). q * g.pages) first_page))

    no_pad : (page c : ℕ) → page ≡ spare * g.pages → c ≡ seal_cell_of g.main_bytes → is_pad (shape_of g) page c ≡ true → ⊥
    no_pad page c at cell pad =
        let slot : is_pad_of_slot (page % g.pages == 0) ((c - 8 * g.main_bytes) / 128) ((c - 8 * g.main_bytes) % 128) ≡ true = (and_parts _ _ pad).1 in
        let k : c - 8 * g.main_bytes ≡ 248 = omega (arith, cell) in
        let first : (page % g.pages == 0) ≡ true = ap (λ (q : ℕ). q % g.pages == 0) at ∙ first_of_block in
        let seal : is_pad_of_slot true (248 / 128) (248 % 128) ≡ true = subst (λ (t : Bool). is_pad_of_slot t (248 / 128) (248 % 128) ≡ true) first
        (subst (λ (n : ℕ). is_pad_of_slot (page % g.pages == 0) (n / 128) (n % 128) ≡ true) k slot) in
        false≢true seal

    pads_kept : NoPadCharged (shape_of g) now.die.cells → NoPadCharged (shape_of g) new.cells
    pads_kept none page c pad = elim (cases_eq page (spare * g.pages)) [
      | inr apart ↦ ap (λ (row : List ℕ). is_charged row c) (only.others page apart) ∙ none page c pad
      | inl at ↦ elim (cases_eq c (seal_cell_of g.main_bytes)) [
        | inl cell ↦ absurd (no_pad page c at cell pad)
        | inr other ↦ ap (λ (q : ℕ). is_charged (page_of new q) c) at
            ∙ (ap (λ (row : List ℕ). is_charged row c) here_g
            ∙ (charged_other (page_of now.die (spare * g.pages)) (seal_cell_of g.main_bytes) c other
            ∙ (ap (λ (q : ℕ). is_charged (page_of now.die q) c) (sym at) ∙ none page c pad)))
      ]
    ]

    pub holds_sealed : (table : List (Option Entry)) (after : BookValue) → Kept now.die new → Holds g start (store new table after now.seq)
    holds_sealed table after kept = record {
      kept = kept_trans r.inside.holds.kept kept;
      pads = λ none. pads_kept (r.inside.holds.pads none);
      sound = λ sound. sealed_sound g meaning.decoding victim spare start.seq start.die.cells now.die.cells new.cells r.records seals b.victim_there (r.inside.holds.sound sound);
      seqs = r.inside.holds.seqs;
      drew = λ either place h e. r.inside.holds.drew (back either) place h
          (sym (header_stays g meaning.decoding victim spare start.seq start.die.cells now.die.cells new.cells r.records seals place) ∙ e);
    }
      where
        back : IsSound g start.die.cells ⊎ Stayed start.die.change_faults new.change_faults → IsSound g start.die.cells ⊎ Stayed start.die.change_faults now.die.change_faults
        back (inl sound) = inl sound
        back (inr stayed) = inr (omega (arith, stayed, kept.change_faults))

    collected : 0 < live_at start.book victim → (table : List (Option Entry)) (after : BookValue) → NamesMoves (spare * g.pages) moves (length r.records) now.table table
        → after ≡ settled now.book victim spare (length r.records) → IsValid after → Passed 1 0 now.die new → Collected g meaning.decoding victim spare start (store new table after now.seq)
    collected some table after names is valid passed =
        let settles : Settles g meaning.decoding victim spare start now new.cells r.records moves table = record {
          begun = b;
          inside = r.inside;
          seals = seals;
          moved_to = r.moved;
          names = names;
          some = omega (arith, some, all_copied);
          count = all_copied;
        } in
        record {
          records = r.records;
          are_live = seals.are_live;
          count = all_copied;
          copied = copy_is_live g meaning.decoding victim spare start.seq start.die.cells now.die.cells new.cells r.records seals;
          cells = copy_cells g meaning.decoding victim spare start.seq start.die.cells now.die.cells new.cells r.records seals;
          others = others_live g meaning.decoding victim spare start.seq start.die.cells now.die.cells new.cells r.records seals;
          rows = sealed_rows g meaning.decoding victim spare start.seq start.die.cells now.die.cells new.cells r.records seals;
          book = is ∙ book_is g meaning.decoding victim spare start now new.cells r.records moves table settles;
          seq = r.inside.seq ∙ ap (λ (n : ℕ). start.seq + n) all_copied;
          tables = subst (λ (v : BookValue). IsTrueTo g new.cells v table now.seq) (sym is)
              (settled_true g meaning.decoding victim spare start now new.cells r.records moves table settles (subst IsValid is valid));
          calls = subst (λ (c : ℕ). PassedWithin c (collection_reads g start.die.cells victim) start.die new)
              (omega (arith, calls_are g meaning victim spare start b, r.copied, all_copied))
              (passed_within (collection_reads g start.die.cells victim) (omega (arith, gets_end g start.die.cells victim b.some_pages (one_slot g meaning victim spare start b)))
              (passed_trans r.passed passed));
        }

    -- The collection ends well.
    pub collected_so : 0 < live_at start.book victim → copies ≤ length moves → {pages : ℕ} → pages ≡ g.pages → {table : List (Option Entry)} {after : BookValue}
        → NamesMoves (spare * pages) (take copies moves) (length (take copies moves)) now.table table → after ≡ settled now.book victim spare (length (take copies moves)) → IsValid after
        → Passed 1 0 now.die new → Collected g meaning.decoding victim spare start (store new table after now.seq)
    collected_so some within same {table} {after} names is valid passed =
        let long : length (take copies moves) ≡ copies = length-take-le copies moves within in
        collected some table after
        (names_whole (spare * g.pages) moves (length r.records) now.table table
        (subst (λ (k : ℕ). NamesMoves (spare * g.pages) (take k moves) k now.table table) r.copied
        (subst (λ (k : ℕ). NamesMoves (spare * g.pages) (take copies moves) k now.table table) long
        (subst (λ (k : ℕ). NamesMoves (spare * k) (take copies moves) (length (take copies moves)) now.table table) same names))))
        (is ∙ ap (settled now.book victim spare) (long ∙ r.copied)) valid passed

    -- The seal's call failed, and charged it.
    pub seal_failed_charged : ChangeFailed 1 0 now.die new → CollectChangeFailed g meaning.decoding victim spare start (store new now.table now.book now.seq)
    seal_failed_charged failed = record {
      copies = length r.records;
      few = omega (arith, all_copied);
      seq = r.inside.seq;
      table = r.inside.table;
      book = marks_now g meaning.decoding victim spare start b now r.records r.inside;
      rows = λ _. sealed_rows g meaning.decoding victim spare start.seq start.die.cells now.die.cells new.cells r.records seals;
      failed = change_failed_within (collection_calls start.book victim spare) (collection_reads g start.die.cells victim)
          (omega (arith, calls_are g meaning victim spare start b, r.copied, all_copied))
          (omega (arith, gets_end g start.die.cells victim b.some_pages (one_slot g meaning victim spare start b))) (change_failed_after r.passed failed);
    }

  -- ---- the seal is not charged

  module _ {new : DieState} (shaped : IsShaped now.die) (shaped_new : IsShaped new) {first : ℕ} (is_first : first ≡ spare * g.pages) (only_first : OnlyPage first now.die new)
      (first_same : page_of new first ≡ page_of now.die first) (kept : Kept now.die new) where
    only_there : OnlyPage (spare * g.pages) now.die new
    only_there = subst (λ (q : ℕ). OnlyPage q now.die new) is_first only_first

    same_there : page_of new (spare * g.pages) ≡ page_of now.die (spare * g.pages)
    same_there = subst (λ (q : ℕ). page_of new q ≡ page_of now.die q) is_first first_same

    same_cells : new.cells ≡ now.die.cells
    same_cells = ext_get_or [] new.cells now.die.cells
        ((has_shape g new (kept.shape ∙ shape_now) shaped_new).pages ∙ sym (has_shape g now.die shape_now shaped).pages)
        (λ page _. elim (cases_eq page (spare * g.pages)) [
          | inr apart ↦ only_there.others page apart
          | inl at ↦ subst (λ (q : ℕ). page_of new q ≡ page_of now.die q) (sym at) same_there
        ])

    pub holds_unsealed : Holds g start (store new now.table now.book now.seq)
    holds_unsealed = record {
      kept = kept_trans r.inside.holds.kept kept;
      pads = λ none. subst (NoPadCharged (shape_of g)) (sym same_cells) (r.inside.holds.pads none);
      sound = λ sound. subst (IsSound g) (sym same_cells) (r.inside.holds.sound sound);
      seqs = r.inside.holds.seqs;
      drew = λ either place h e. r.inside.holds.drew (back either) place h (ap (λ (cells : List (List ℕ)). header_in g cells place) (sym same_cells) ∙ e);
    }
      where
        back : IsSound g start.die.cells ⊎ Stayed start.die.change_faults new.change_faults → IsSound g start.die.cells ⊎ Stayed start.die.change_faults now.die.change_faults
        back (inl sound) = inl sound
        back (inr stayed) = inr (omega (arith, stayed, kept.change_faults))

    pub seal_failed : ChangeFailed 1 0 now.die new → CollectChangeFailed g meaning.decoding victim spare start (store new now.table now.book now.seq)
    seal_failed failed = record {
      copies = length r.records;
      few = omega (arith, all_copied);
      seq = r.inside.seq;
      table = r.inside.table;
      book = marks_now g meaning.decoding victim spare start b now r.records r.inside;
      rows = λ _. ap (stored g meaning.decoding) same_cells ∙ rows_now g meaning.decoding victim spare start b now r.records r.inside;
      failed = change_failed_within (collection_calls start.book victim spare) (collection_reads g start.die.cells victim)
          (omega (arith, calls_are g meaning victim spare start b, r.copied, all_copied))
          (omega (arith, gets_end g start.die.cells victim b.some_pages (one_slot g meaning victim spare start b))) (change_failed_after r.passed failed);
    }
