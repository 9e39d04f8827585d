-- A put of a single record on the page at hand: what it leaves, finished or failed.
use Rattle.std.proofs.Common.{◌≡◌, inl, inr, ℕ, ◌+◌, ◌*◌, ◌/◌, ◌^◌, ◌<◌, ◌≤◌, true, false, List, drop, length, if◌then◌else◌, Option, Some, refl, sym, ap, ap₂, ◌∙◌, subst, arith}
use Rattle.std.specs.Prelude.{slice_set}
use Rattle.std.proofs.lemmas.Bool.{cases_lt, cases_Bool}
use Rattle.zero_count.specs.declared.Header.{Header}
use Rattle.zero_count.specs.HeaderWord.{IsHeader}
use Rattle.cell_die.specs.DieState.{DieState, IsShaped, page_of}
use Rattle.cell_die.specs.Calls.{Kept, Passed, ChangeFailed}
use Rattle.striped.specs.Meaning.{Decoding}
use Rattle.spare_gate.specs.Slots.{is_gate_charged}
use Rattle.sector_map.specs.declared.entry.Entry.{Entry}
use Rattle.sector_map.specs.Entry.{entry_at, place_of}
use Rattle.block_state.specs.declared.state.State.{State}
use Rattle.block_state.specs.declared.state.State.TheVariants.{Active}
use Rattle.block_state.specs.State.{is_active}
use Rattle.block_state.specs.Book.{BookValue, state_at, live_at}
use Rattle.page_alloc.specs.CleanPage.{IsPageBranch}
use Rattle.page_codec.specs.declared.place.Place.{Place}
use Rattle.page_codec.specs.Geometry.{Geometry, shape_of}
use Rattle.page_codec.specs.Puts.{Puts, first_slot}
use Rattle.page_codec.specs.Records.{header_in, is_copy}
use Rattle.page_codec.specs.Sectors.{said_by, stored, InCells}
use Rattle.page_codec.specs.TrueBook.{IsTrue, IsTrueState, IsTrueActive, IsNextSeq, entry_of}
use Rattle.page_codec.proofs.PutCells.{put_cells}
use Rattle.collector.specs.Effects.{after_record, filled, recorded, former_in, block_in, MayDrop}
use Rattle.collector.specs.Store.{Store, store, Holds, IsTrueStore}
use Rattle.collector.proofs.Books.{active_within}
use Rattle.collector.proofs.NextPage.{PutsNext, next_page, next_page_within, next_gate, block_of_next, may_hold_next, none_committed, stored_before_gate, wins_from_gate, stores_from_gate}
use Rattle.collector.proofs.Tables.{room_true, former_true, effect_true}
use Rattle.collector.proofs.Fresh.{put_holds, free_spare, free_after, next_record}
use Rattle.collector.proofs.Rows.{rows_after}
use Rattle.rssd_core.specs.Steps.{IsSized, PutNext, PutNextFailed}

-- the next seq is greater than that of every valid header, where it is far from the greatest number
pub fresh_seq : (g : Geometry) (cells : List (List ℕ)) (seq : ℕ) → IsNextSeq g cells seq → seq < 2 ^ 62 + 2 ^ 8 → (place : Place) (k : Header) → header_in g cells place ≡ Some k → k.seq < seq
fresh_seq g cells seq (inl below) small place k e = below place k e
fresh_seq g cells seq (inr greatest) small place k e = absurd (omega arith)

-- a put on the page at hand, as a call of `page_codec` leaves it
pub record PutsAtHand (g : Geometry) (d : Decoding) (page : ℕ) (h : Header) (row : List ℕ) (old : Store) (new : DieState) : Type 0 where
  pub sized : IsSized g
  pub shape : old.die.shape ≡ shape_of g
  pub kept : Kept old.die new
  pub tables : IsTrueStore g old
  pub small : old.seq < 2 ^ 62 + 2 ^ 8
  pub drawn : h.seq ≡ old.seq
  pub block : ℕ
  pub fill : ℕ
  pub active : state_at old.book block ≡ Active fill
  pub page_is : page ≡ next_page g block fill
  pub next : PutsNext g block fill h old.die.cells new.cells
  pub erases : new.erases ≡ old.die.erases
  pub says : next_gate g block fill new.cells ≡ true → said_by g d new.cells (Some (record { place = first_slot (next_page g block fill); header = h })) ≡ row
  pub in_cells : next_gate g block fill new.cells ≡ true → InCells g d new.cells (next_page g block fill) h row

pub at_hand : {Content : (ℕ → List ℕ) → Type 0} (g : Geometry) (d : Decoding) (page : ℕ) (h : Header) (row : List ℕ) (old : Store) (new : DieState) → IsSized g
    → Puts Content 1 (first_slot page) h old.die new → old.die.shape ≡ shape_of g → Kept old.die new → IsShaped old.die → IsShaped new → IsTrueStore g old → IsPageBranch old.book page
    → old.seq < 2 ^ 62 + 2 ^ 8 → h.seq ≡ old.seq → IsHeader h → h.sector < g.sectors → is_copy h ≡ false
    → (is_gate_charged (drop g.main_bytes (page_of new page)) 0 ≡ true → said_by g d new.cells (Some (record { place = first_slot page; header = h })) ≡ row)
    → (is_gate_charged (drop g.main_bytes (page_of new page)) 0 ≡ true → InCells g d new.cells page h row) → PutsAtHand g d page h row old new
at_hand {Content = Content} g d page h row old new sized p shape kept shaped shaped_new t (block, fill, active, at) small drawn header sector single says in_cells = record {
  sized = sized;
  shape = shape;
  kept = kept;
  tables = t;
  small = small;
  drawn = drawn;
  block = block;
  fill = fill;
  active = active;
  page_is = page_is;
  next = record {
    block_in = within;
    slots = slots;
    active = is_active_block;
    header = header;
    sector = sector;
    single = single;
    fresh = λ place k e. subst (λ (n : ℕ). k.seq < n) (sym drawn) (fresh_seq g old.die.cells old.seq t.next_seq small place k e);
    put = put_cells g (first_slot (next_page g block fill)) h old.die new p' shape kept.shape shaped shaped_new (next_page_within g block fill within is_active_block.room) (omega (arith, slots));
    only = λ q apart. p'.others q (elim (cases_lt q (next_page g block fill)) [ inl below ↦ inl below | inr above ↦ inr (omega (arith, apart)) ]);
  };
  says = subst (λ (q : ℕ). is_gate_charged (drop g.main_bytes (page_of new q)) 0 ≡ true → said_by g d new.cells (Some (record { place = first_slot q; header = h })) ≡ row) page_is says;
  in_cells = subst (λ (q : ℕ). is_gate_charged (drop g.main_bytes (page_of new q)) 0 ≡ true → InCells g d new.cells q h row) page_is in_cells;
  erases = p.erases;
}
  where
    page_is : page ≡ next_page g block fill
    page_is = at ∙ ap (λ (n : ℕ). block * n + fill) t.sizes.pages

    p' : Puts Content 1 (first_slot (next_page g block fill)) h old.die new
    p' = subst (λ (q : ℕ). Puts Content 1 (first_slot q) h old.die new) (at ∙ ap (λ (n : ℕ). block * n + fill) t.sizes.pages) p

    within : block < g.blocks
    within = omega (arith, active_within old.book block fill active, t.sizes.blocks)

    slots : 1 ≤ g.generations
    slots = omega (arith, sized.two_slots)

    is_active_block : IsTrueActive g old.die.cells block fill
    is_active_block = subst (IsTrueState g old.die.cells block) active (t.states block within)

module _ (g : Geometry) (d : Decoding) (page : ℕ) (h : Header) (row : List ℕ) (old : Store) (new : DieState) (p : PutsAtHand g d page h row old new) where
  -- what it keeps, in either outcome
  pub at_hand_holds : (table : List (Option Entry)) (book : BookValue) → Holds g old (store new table book (old.seq + 1))
  at_hand_holds table book =
      let free = free_spare g old.die.cells old.book old.table old.seq p.block p.fill p.tables p.active in
      put_holds g (first_slot (next_page g p.block p.fill)) h old (store new table book (old.seq + 1)) p.next.put p.next.header p.next.fresh p.kept p.drawn refl (omega (arith, p.small)) (
        free.0,
        free.1,
        free_after g (first_slot (next_page g p.block p.fill)) h old.die.cells new.cells (next_record g p.block p.fill h old.die.cells new.cells p.next) free.0
            (λ e. free.2 (sym e ∙ block_of_next g p.block p.fill p.next.active.room)) free.3,
      )

  -- the rows, by the gate
  rows_charged : next_gate g p.block p.fill new.cells ≡ true → stored g d new.cells ≡ slice_set (stored g d old.die.cells) h.sector row
  rows_charged charged =
      rows_after g d (first_slot (next_page g p.block p.fill)) h old.die.cells new.cells (stores_from_gate g p.block p.fill h old.die.cells new.cells p.next d charged) p.next.sector
      ∙ ap (slice_set (stored g d old.die.cells) h.sector) (p.says charged)

  -- its put failed
  pub at_hand_failed : ChangeFailed 2 0 old.die new → PutNextFailed g d h row old (store new old.table old.book (old.seq + 1))
  at_hand_failed failed = record {
    same = refl;
    rows = elim (cases_Bool (next_gate g p.block p.fill new.cells)) [
      | inl charged ↦ inr (rows_charged charged)
      | inr open' ↦ inl (stored_before_gate g p.block p.fill h old.die.cells new.cells p.next d open')
    ];
    erases = p.erases;
    failed = failed;
  }

  -- ---- the record effect

  abbrev former : Option ℕ
  former = former_in old.book (entry_at old.table h.sector)

  page_block : (n : ℕ) → n ≡ g.pages → page / n ≡ p.block
  page_block n same = ap₂ (λ (a b : ℕ). a / b) p.page_is same ∙ block_of_next g p.block p.fill p.next.active.room

  pub effect_block : (entry : Entry) → (place_of entry).page ≡ page → block_in old.book entry ≡ p.block
  effect_block entry at = ap (λ (q : ℕ). q / old.book.pages) at ∙ page_block old.book.pages p.tables.sizes.pages

  effect_book : (entry : Entry) → (place_of entry).page ≡ page
      → after_record old.book (block_in old.book entry) (former_in old.book (entry_at old.table h.sector))
      ≡ filled (recorded old.book p.block (former_in old.book (entry_at old.table h.sector))) p.block
  effect_book entry at =
      ap (λ (b : ℕ). after_record old.book b (former_in old.book (entry_at old.table h.sector))) (effect_block entry at)
      ∙ ap (λ (s : State). if is_active s then filled (recorded old.book p.block (former_in old.book (entry_at old.table h.sector))) p.block else recorded old.book p.block
      (former_in old.book (entry_at old.table h.sector))) p.active

  module _ (gated : is_gate_charged (drop g.main_bytes (page_of new page)) 0 ≡ true) (entry : Entry) (names : entry_of (Some (record { place = first_slot page; header = h })) ≡ Some entry)
      (at : (place_of entry).page ≡ page) where
    charged : next_gate g p.block p.fill new.cells ≡ true
    charged = subst (λ (q : ℕ). is_gate_charged (drop g.main_bytes (page_of new q)) 0 ≡ true) p.page_is gated

    pub effect_within : block_in old.book entry < length old.book.states
    effect_within = subst (λ (b : ℕ). b < length old.book.states) (sym (effect_block entry at)) (active_within old.book p.block p.fill p.active)

    pub effect_room : live_at old.book (block_in old.book entry) < old.book.generations * old.book.pages
    effect_room = subst (λ (b : ℕ). live_at old.book b < old.book.generations * old.book.pages) (sym (effect_block entry at))
        (room_true g old.die.cells old.book old.table old.seq p.tables (first_slot (next_page g p.block p.fill)) p.block (block_of_next g p.block p.fill p.next.active.room) p.next.block_in
        (may_hold_next g p.block p.fill p.next.block_in p.next.active.room) (none_committed g p.block p.fill h old.die.cells new.cells p.next))

    pub effect_drops : MayDrop old.book (former_in old.book (entry_at old.table h.sector))
    effect_drops = former_true g old.die.cells old.book old.table old.seq p.tables h.sector p.next.sector p.sized.pages

    -- the put and its record effect
    pub put_next : Passed 2 0 old.die new → PutNext g d page h row old
        (store new (slice_set old.table h.sector (Some entry)) (after_record old.book (block_in old.book entry) (former_in old.book (entry_at old.table h.sector))) (old.seq + 1))
    put_next passed = record {
      block = p.block;
      fill = p.fill;
      active = p.active;
      page_is = p.page_is;
      live = (wins_from_gate g p.block p.fill h old.die.cells new.cells p.next charged).live ∙ ap (λ (q : ℕ). Some (record { place = first_slot q; header = h })) (sym p.page_is);
      others = (wins_from_gate g p.block p.fill h old.die.cells new.cells p.next charged).others;
      rows = rows_charged charged;
      cells = subst (λ (q : ℕ). InCells g d new.cells q h row) (sym p.page_is) (p.in_cells charged);
      book = effect_book entry at;
      seq = refl;
      tables = subst (λ (book : BookValue). IsTrue g new.cells book (slice_set old.table h.sector (Some entry)) (old.seq + 1)) (sym (effect_book entry at))
          (effect_true g p.block p.fill h old.die.cells new.cells p.next charged old.book old.table old.seq p.tables p.active p.drawn entry
          (ap (λ (q : ℕ). entry_of (Some (record { place = first_slot q; header = h }))) (sym p.page_is) ∙ names));
      erases = p.erases;
      calls = passed;
    }
