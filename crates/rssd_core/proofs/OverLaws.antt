-- A put over the offered unit: what each of its outcomes leaves.
use Rattle.std.proofs.Common.{◌≡◌, ◌≢◌, inl, inr, ℕ, zero, suc, ◌+◌, ◌*◌, ◌/◌, ◌^◌, ◌<◌, Bool, true, false, List, drop, take, length, if◌then◌else◌, ◌==◌, Option, Some, refl, sym, ap, ap₂, ◌∙◌}
use Rattle.std.proofs.Common.{subst, arith}
use Rattle.std.specs.Prelude.{slice_set}
use Rattle.std.specs.List.{flat_map, range_with_len}
use Rattle.std.proofs.lemmas.Bool.{cases_Bool, false≢true, ne_eqb}
use Rattle.zero_count.specs.declared.Header.{Header}
use Rattle.cell_die.specs.declared.shape.Shape.{Shape}
use Rattle.cell_die.specs.Cells.{page_at, IsAbove}
use Rattle.cell_die.specs.DieState.{DieState, IsShaped, page_of}
use Rattle.cell_die.specs.Changes.{SameCells}
use Rattle.cell_die.specs.Calls.{Kept, Passed, ChangeFailed}
use Rattle.cell_bits.proofs.Above.{above_refl, above_trans}
use Rattle.cell_bits.proofs.Slices.{above_take}
use Rattle.striped.specs.Meaning.{Meaning, Decodes, IsSector, NoneCarries}
use Rattle.spare_gate.specs.Slots.{is_gate_charged}
use Rattle.sector_map.specs.declared.entry.Entry.{Entry}
use Rattle.sector_map.specs.declared.entry.Entry.TheVariants.{Held}
use Rattle.block_state.specs.declared.state.State.{State}
use Rattle.block_state.specs.declared.state.State.TheVariants.{Clean, Active, Used, Recycled, Reused, Spare}
use Rattle.block_state.specs.State.{is_active, is_spare}
use Rattle.block_state.specs.Book.{BookValue, state_at, live_at}
use Rattle.reuse_pool.specs.declared.unit.ReuseUnit.{ReuseUnit}
use Rattle.reuse_pool.specs.Offer.{IsOffer, passed}
use Rattle.page_codec.specs.declared.place.Place.{Place}
use Rattle.page_codec.specs.Geometry.{Geometry, main_at, unit_at, unit_page}
use Rattle.page_codec.specs.Puts.{Puts, SecondGives, is_gated}
use Rattle.page_codec.specs.Units.{place_of as slot_at, unit_main}
use Rattle.page_codec.specs.Sectors.{said_by, stored, says_zeros, zero_sector}
use Rattle.page_codec.specs.Sizes.{Sizes, Serves, ServesScheme}
use Rattle.page_codec.specs.Sound.{live_count}
use Rattle.page_codec.specs.TrueBook.{IsTrue, IsTrueState, IsTrueRecycled}
use Rattle.page_codec.proofs.PutCells.{put_cells}
use Rattle.page_codec.proofs.PutUnit.{above_append}
use Rattle.collector.specs.Effects.{after_record, filled, recorded, block_in, MayDrop}
use Rattle.collector.specs.Store.{Store, store, geometry_of, Holds, IsTrueStore}
use Rattle.collector.proofs.Books.{spare_within}
use Rattle.collector.proofs.Fresh.{PutsRecord, put_holds, free_after}
use Rattle.rssd_core.specs.Given.{unit_by, InPart}
use Rattle.rssd_core.specs.Steps.{IsSized, PutOver, OverDeclined, OverChangeFailed, former_block, place_in, passing}
use Rattle.rssd_core.proofs.AtHand.{fresh_seq}
use Rattle.rssd_core.proofs.Passing.{offered_state, WritesOver, second_true, still_offered, pass_true, over_room, former_drops}
use Rattle.rssd_core.proofs.SecondWrite.{PutsOver, over_gate, unit_below, block_is, gate_before, holds_record, stored_before_gate, wins_from_gate, rows_from_gate}
use Rattle.rssd_core.proofs.Served.{shape_is}

-- a later write says the sector that was written
second_says : (g : Geometry) (meaning : Meaning) (place : Place) (h : Header) (before sector : List ℕ) (old new : DieState)
    → Puts (SecondGives meaning place.page before sector) meaning.span place h old new
    → is_gated new place ≡ true → meaning.page_bytes ≡ g.main_bytes → meaning.span ≡ g.span → Decodes meaning → IsSector meaning sector → says_zeros h ≡ false → (place.slot == 0) ≡ false
    → said_by g meaning.decoding new.cells (Some (record { place = place; header = h })) ≡ sector
second_says g meaning place h before sector old new p gated bytes spans decodes is kind later =
    ap (λ (t : Bool). if t then zero_sector g else (if place.slot == 0 then meaning.decoding.first (main_at g new.cells place.page) else meaning.decoding.second (unit_at g new.cells place.page))) kind
    ∙ (ap (λ (t : Bool). if t then meaning.decoding.first (main_at g new.cells place.page) else meaning.decoding.second (unit_at g new.cells place.page)) later
    ∙ decodes.second (unit_at g new.cells place.page) sector is
    ((λ i. meaning.decoding.second_carries (flat_map (λ q. take (sym bytes i) (p.whole gated q i)) (range_with_len place.page (sym spans i))) sector) ∙ p.content.carries))

unit_carries : (g : Geometry) (meaning : Meaning) (place : Place) (h : Header) (before sector : List ℕ) (old new : DieState)
    → Puts (SecondGives meaning place.page before sector) meaning.span place h old new
    → is_gated new place ≡ true → meaning.page_bytes ≡ g.main_bytes → meaning.span ≡ g.span → meaning.decoding.second_carries (unit_at g new.cells place.page) sector ≡ true
unit_carries g meaning place h before sector old new p gated bytes spans =
    (λ i. meaning.decoding.second_carries (flat_map (λ q. take (sym bytes i) (p.whole gated q i)) (range_with_len place.page (sym spans i))) sector) ∙ p.content.carries

-- and its cells are those that the write gives over the cells before it
unit_gives : (g : Geometry) (meaning : Meaning) (place : Place) (h : Header) (before sector : List ℕ) (old new : DieState)
    → Puts (SecondGives meaning place.page before sector) meaning.span place h old new
    → is_gated new place ≡ true → meaning.page_bytes ≡ g.main_bytes → meaning.span ≡ g.span → meaning.decoding.second_gives before sector (unit_at g new.cells place.page) ≡ true
unit_gives g meaning place h before sector old new p gated bytes spans =
    (λ i. meaning.decoding.second_gives before sector (flat_map (λ q. take (sym bytes i) (p.whole gated q i)) (range_with_len place.page (sym spans i)))) ∙ p.content.gives

-- pages above pages make a unit above a unit
pages_above : (m : ℕ) (new old : ℕ → List ℕ) (a n : ℕ) → ((page : ℕ) → IsAbove (new page) (old page))
    → IsAbove (flat_map (λ q. take m (new q)) (range_with_len a n)) (flat_map (λ q. take m (old q)) (range_with_len a n))
pages_above m new old a zero above = above_refl _
pages_above m new old a (suc n) above =
    above_append (take m (new a)) (take m (old a)) (flat_map (λ q. take m (new q)) (range_with_len (a + 1) n)) (flat_map (λ q. take m (old q)) (range_with_len (a + 1) n))
    (above_take m (new a) (old a) (above a)) (pages_above m new old (a + 1) n above)

-- the Spare has no live record, and is none of the Recycled blocks
free_spare_over : (g : Geometry) (cells : List (List ℕ)) (book : BookValue) (table : List (Option Entry)) (seq : ℕ) (unit : ReuseUnit) → IsTrue g cells book table seq → IsOffer book unit
    → (spare : ℕ) × (spare < g.blocks) × (spare ≢ unit.block) × (live_count g cells spare ≡ 0)
free_spare_over g cells book table seq unit t offer = (t.one_spare.0, within, apart, free (state_at book t.one_spare.0) t.one_spare.1 (t.states t.one_spare.0 within))
  where
    within : t.one_spare.0 < g.blocks
    within = omega (arith, spare_within book t.one_spare.0 t.one_spare.1, t.sizes.blocks)

    apart : t.one_spare.0 ≢ unit.block
    apart same = false≢true (sym (ap is_spare offer.1) ∙ (ap (λ (b : ℕ). is_spare (state_at book b)) (sym same) ∙ t.one_spare.1))

    free : (s : State) → is_spare s ≡ true → IsTrueState g cells t.one_spare.0 s → live_count g cells t.one_spare.0 ≡ 0
    free (Spare marked) is is_true = is_true.free
    free Clean is is_true = absurd (false≢true is)
    free (Active n) is is_true = absurd (false≢true is)
    free (Used n) is is_true = absurd (false≢true is)
    free (Recycled n m) is is_true = absurd (false≢true is)
    free Reused is is_true = absurd (false≢true is)

-- the die, the scheme, the buffers and the tables before a put over an offered unit, and the die after it
pub record IsOver (meaning : Meaning) (sizes : Sizes) (old : Store) (new : DieState) (unit : ReuseUnit) (page sector : ℕ) : Type 0 where
  pub die : Serves sizes old.die.shape
  pub scheme : ServesScheme sizes meaning
  pub sized : IsSized (geometry_of old.die.shape meaning (length old.table))
  pub tables : IsTrueStore (geometry_of old.die.shape meaning (length old.table)) old
  pub offer : IsOffer old.book unit
  pub small : old.seq < 2 ^ 62 + 2 ^ 8
  pub within : sector < length old.table
  pub narrow : sector < 2 ^ 32
  pub page_is : page ≡ unit_page (geometry_of old.die.shape meaning (length old.table)) unit.block unit.number

module _ (meaning : Meaning) (sizes : Sizes) (old : Store) (new : DieState) (unit : ReuseUnit) (page sector : ℕ) (o : IsOver meaning sizes old new unit page sector) (bytes : List ℕ)
    (kept : Kept old.die new) (shaped : IsShaped old.die) (shaped_new : IsShaped new)
    (p : Puts (SecondGives meaning page (unit_main old.die meaning.span page) bytes) meaning.span (slot_at page unit.slot) (record { sector = sector; seq = old.seq; kind = 1 }) old.die new) where
  abbrev g : Geometry
  g = geometry_of old.die.shape meaning (length old.table)

  abbrev h : Header
  h = record { sector = sector; seq = old.seq; kind = 1 }

  offered : (unit.block < g.blocks) × IsTrueRecycled g old.die.cells unit.block unit.slot unit.number
  offered = offered_state g old.die.cells old.book old.table old.seq unit o.tables o.offer

  -- the main bytes of the unit before the put
  abbrev before : List ℕ
  before = unit_at g old.die.cells (unit_page g unit.block unit.number)

  p' : Puts (SecondGives meaning (unit_page g unit.block unit.number) before bytes) meaning.span (place_in g unit) h old.die new
  p' = subst (λ (q : ℕ). Puts (SecondGives meaning q (unit_main old.die meaning.span q) bytes) meaning.span (slot_at q unit.slot) h old.die new) o.page_is p

  pub puts_over : PutsOver g unit h old.die.cells new.cells
  puts_over = record {
    sized = o.sized;
    inside = offered.0;
    offered = offered.1;
    header = record { sector = o.narrow; seq = omega (arith, o.small); least_kind = omega arith; greatest_kind = omega arith };
    sector = o.within;
    single = refl;
    fresh = fresh_seq g old.die.cells old.seq o.tables.next_seq o.small;
    put = put_cells g (place_in g unit) h old.die new p' (shape_is old.die.shape meaning (length old.table) sizes o.die o.scheme) kept.shape shaped shaped_new
        (omega (arith, unit_below g unit.block unit.number o.sized offered.0 offered.1.more, o.sized.span)) offered.1.high;
    only = p'.others;
  }

  pub over_holds : (table : List (Option Entry)) (book : BookValue) → Holds g old (store new table book (old.seq + 1))
  over_holds table book =
      let free = free_spare_over g old.die.cells old.book old.table old.seq unit o.tables o.offer in
      let record_there : PutsRecord g (place_in g unit) h old.die.cells new.cells = record {
        put = puts_over.put;
        holds = holds_record g unit h old.die.cells new.cells puts_over;
        single = refl;
        gate = gate_before g unit h old.die.cells new.cells puts_over;
        fresh = puts_over.fresh;
      } in
      put_holds g (place_in g unit) h old (store new table book (old.seq + 1)) puts_over.put puts_over.header puts_over.fresh kept refl refl (omega (arith, o.small))
      (free.0, free.1, free_after g (place_in g unit) h old.die.cells new.cells record_there free.0 (λ e. free.2 (sym e ∙ block_is g unit h old.die.cells new.cells puts_over)) free.3)

  bytes_are : meaning.page_bytes ≡ old.die.shape.main_bytes
  bytes_are = o.scheme.page_bytes ∙ sym o.die.main_bytes

  gate_is : over_gate g unit new.cells ≡ true → is_gated new (place_in g unit) ≡ true
  gate_is e = ap (λ (s : Shape). is_gate_charged (drop s.main_bytes (page_of new (unit_page g unit.block unit.number))) unit.slot) kept.shape ∙ e

  -- the unit, whether the write was finished or not
  in_part : InPart g meaning.decoding (unit_page g unit.block unit.number) bytes old.die.cells new.cells
  in_part = record {
    main = λ q. take g.main_bytes (p'.done q);
    carries = (λ i. meaning.decoding.second_carries (unit_by g (unit_page g unit.block unit.number) (λ q. take (sym bytes_are i) (p'.done q))) bytes) ∙ p'.content.carries;
    gives = (λ i. meaning.decoding.second_gives before bytes
        (unit_by g (unit_page g unit.block unit.number) (λ q. take (sym bytes_are i) (p'.done q)))) ∙ p'.content.gives;
    above = pages_above g.main_bytes (page_at new.cells) (page_at old.die.cells) (unit_page g unit.block unit.number) g.span p'.above;
    below = pages_above g.main_bytes p'.done (page_at new.cells) (unit_page g unit.block unit.number) g.span p'.below;
    order = elim p'.order [
      | inl still ↦ inl still
      | inr whole ↦ inr (λ further behind within. ap (take g.main_bytes) (whole further behind within))
    ];
  }

  module _ (decodes : Decodes meaning) (is : IsSector meaning bytes) where
    rows_charged : over_gate g unit new.cells ≡ true → stored g meaning.decoding new.cells ≡ slice_set (stored g meaning.decoding old.die.cells) sector bytes
    rows_charged charged = rows_from_gate g unit h old.die.cells new.cells puts_over meaning.decoding bytes charged
        (second_says g meaning (place_in g unit) h before bytes old.die new p' (gate_is charged) bytes_are refl decodes is refl
        (ne_eqb unit.slot 0 (λ e. omega (arith, offered.1.low))))

    pub over_failed : ChangeFailed (meaning.span + 1) meaning.span old.die new → OverChangeFailed g meaning.decoding unit h bytes old (store new old.table old.book (old.seq + 1))
    over_failed failed = record {
      same = refl;
      rows = elim (cases_Bool (over_gate g unit new.cells)) [
        | inl charged ↦ inr (rows_charged charged)
        | inr open' ↦ inl (stored_before_gate g unit h old.die.cells new.cells puts_over meaning.decoding open')
      ];
      cells = unit_by g (unit_page g unit.block unit.number) in_part.main;
      above = above_trans _ _ _ in_part.below in_part.above;
      carries = in_part.carries;
      part = in_part;
      erases = p.erases;
      failed = failed;
    }

    module _ (gated : is_gated new (slot_at page unit.slot) ≡ true) (entry : Entry) (is_entry : entry ≡ Held (record { page = page; slot = unit.slot })) where
      charged : over_gate g unit new.cells ≡ true
      charged = ap (λ (s : Shape). is_gate_charged (drop s.main_bytes (page_of new (unit_page g unit.block unit.number))) unit.slot) (sym kept.shape)
          ∙ subst (λ (q : ℕ). is_gated new (slot_at q unit.slot) ≡ true) o.page_is gated

      writes : WritesOver g unit h old.die.cells new.cells old.book old.table old.seq
      writes = record { put = puts_over; gated = charged; tables = o.tables; offer = o.offer; next = refl }

      block_entry : block_in old.book entry ≡ unit.block
      block_entry = ap (block_in old.book) is_entry ∙ (ap₂ (λ (a b : ℕ). a / b) o.page_is o.tables.sizes.pages ∙ block_is g unit h old.die.cells new.cells puts_over)

      pub effect_within : block_in old.book entry < length old.book.states
      effect_within = subst (λ (b : ℕ). b < length old.book.states) (sym block_entry) o.offer.0

      pub effect_room : live_at old.book (block_in old.book entry) < old.book.generations * old.book.pages
      effect_room = subst (λ (b : ℕ). live_at old.book b < old.book.generations * old.book.pages) (sym block_entry)
          (over_room g unit h old.die.cells new.cells old.book old.table old.seq puts_over o.tables)

      pub effect_drops : MayDrop old.book (former_block old.book old.table sector)
      effect_drops = former_drops g old.die.cells old.book old.table old.seq sector o.sized o.tables o.within

      pub effect_is : after_record old.book (block_in old.book entry) (former_block old.book old.table sector) ≡ recorded old.book unit.block (former_block old.book old.table sector)
      effect_is = ap (λ (b : ℕ). after_record old.book b (former_block old.book old.table sector)) block_entry
          ∙ ap (λ (s : State). if is_active s then filled (recorded old.book unit.block (former_block old.book old.table sector)) unit.block else recorded old.book unit.block
          (former_block old.book old.table sector)) o.offer.1

      pub offer_after : IsOffer (after_record old.book (block_in old.book entry) (former_block old.book old.table sector)) unit
      offer_after = subst (λ (v : BookValue). IsOffer v unit) (sym effect_is) (still_offered g unit h old.die.cells new.cells old.book old.table old.seq writes)

      pub put_over_ends : Passed (meaning.span + 1) meaning.span old.die new
          → PutOver g meaning.decoding unit h bytes old
          (store new (slice_set old.table sector (Some entry)) (passing (after_record old.book (block_in old.book entry) (former_block old.book old.table sector)) unit) (old.seq + 1))
      put_over_ends passed = record {
        live = (wins_from_gate g unit h old.die.cells new.cells puts_over charged).live;
        others = (wins_from_gate g unit h old.die.cells new.cells puts_over charged).others;
        rows = rows_charged charged;
        above = pages_above g.main_bytes (page_at new.cells) (page_at old.die.cells) (unit_page g unit.block unit.number) g.span p'.above;
        carries = unit_carries g meaning (place_in g unit) h before bytes old.die new p' (gate_is charged) bytes_are refl;
        gives = unit_gives g meaning (place_in g unit) h before bytes old.die new p' (gate_is charged) bytes_are refl;
        book = ap (λ (v : BookValue). passing v unit) effect_is;
        seq = refl;
        tables =
            subst (λ (e : Entry). IsTrue g new.cells (passing (after_record old.book (block_in old.book entry) (former_block old.book old.table sector)) unit) (slice_set old.table sector (Some e))
            (old.seq + 1))
            (ap (λ (q : ℕ). Held (record { page = q; slot = unit.slot })) (sym o.page_is) ∙ sym is_entry)
            (subst (λ (v : BookValue). IsTrue g new.cells (passing v unit) (slice_set old.table sector (Some (Held (record { page = unit_page g unit.block unit.number; slot = unit.slot }))))
            (old.seq + 1)) (sym effect_is)
            (second_true g unit h old.die.cells new.cells old.book old.table old.seq writes));
        erases = p.erases;
        calls = passed;
      }

-- ---- declined, and a failed read

pub over_declined : (meaning : Meaning) (sizes : Sizes) (old : Store) (new : DieState) (unit : ReuseUnit) (page sector : ℕ) (bytes : List ℕ) → IsOver meaning sizes old new unit page sector
    → SameCells old.die new
    → NoneCarries meaning (flat_map (λ q. take old.die.shape.main_bytes (page_of old.die q)) (range_with_len page meaning.span)) bytes → Passed 0 meaning.span old.die new
    → OverDeclined (geometry_of old.die.shape meaning (length old.table)) meaning.decoding unit bytes old (store new old.table (passing old.book unit) old.seq)
over_declined meaning sizes old new unit page sector bytes o same none passed = record {
  same = refl;
  cells = same;
  none = λ cells above carries. none cells (record {
    above = subst (λ (q : ℕ). IsAbove cells (unit_at (geometry_of old.die.shape meaning (length old.table)) old.die.cells q)) (sym o.page_is) above;
    carries = carries;
  });
  tables = subst (λ (cells : List (List ℕ)). IsTrue (geometry_of old.die.shape meaning (length old.table)) cells (passing old.book unit) old.table old.seq) (sym same.cells)
      (pass_true (geometry_of old.die.shape meaning (length old.table)) old.die.cells old.book old.table old.seq unit o.tables o.offer);
  calls = passed;
}
