-- A live record that is put again on the next page of the Active block says the same, so all sectors stay; from its gate on it is
-- the live one of its sector.
use Rattle.std.proofs.Common.{◌≡◌, ◌⊎◌, inl, inr, ℕ, ◌+◌, ◌*◌, ◌/◌, ◌^◌, ◌<◌, ◌≤◌, Bool, true, false, List, length, drop, slice_set, ◌||◌, ◌==◌, if◌then◌else◌, Option, Some, refl, sym, ap, ◌∙◌}
use Rattle.std.proofs.Common.{arith, subst}
use Rattle.std.proofs.lemmas.Bool.{cases_Bool}
use Rattle.std.proofs.lemmas.Nat.{div-add-mod', div_below}
use native.Mathlib.Nat.{mul-le-mul_right, suc-mul}
use Rattle.zero_count.specs.declared.Header.{Header}
use Rattle.zero_count.specs.HeaderWord.{IsHeader}
use Rattle.zero_count.proofs.Spelled.{spelled_from_read}
use Rattle.cell_die.specs.declared.shape.Shape.{Shape}
use Rattle.cell_die.specs.Cells.{page_at, is_blank}
use Rattle.cell_die.specs.DieState.{DieState, IsShaped}
use Rattle.cell_die.specs.Calls.{Kept}
use Rattle.striped.specs.Meaning.{Meaning, Decodes}
use Rattle.spare_gate.specs.Slots.{is_gate_charged}
use Rattle.sector_map.specs.declared.entry.Entry.{Entry}
use Rattle.sector_map.specs.declared.entry.Entry.TheVariants.{Held, Zeros}
use Rattle.sector_map.specs.Entry.{place_of, entry_at}
use Rattle.block_state.specs.State.{is_active}
use Rattle.block_state.specs.Book.{BookValue}
use Rattle.page_codec.specs.declared.place.Place.{Place}
use Rattle.page_codec.specs.declared.fault.PutFault.{PutFault}
use Rattle.page_codec.specs.declared.fault.PutFault.TheVariants.{Read, Change}
use Rattle.page_codec.specs.Geometry.{Geometry, page_count, block_of, units, shape_of}
use Rattle.page_codec.specs.Records.{may_hold, is_copy, committed_in, live_record}
use Rattle.page_codec.specs.Sectors.{said_by, says_zeros, stored}
use Rattle.page_codec.specs.Sizes.{Sizes, Serves, ServesScheme}
use Rattle.page_codec.specs.Puts.{Puts, first_slot, is_gated}
use Rattle.page_codec.specs.TrueBook.{IsTrue, IsTrueState, IsTrueActive, entry_of}
use Rattle.page_codec.specs.Units.{reads_of}
use Rattle.page_codec.proofs.Live.{committed_holds, live_counts, holds_within}
use Rattle.collector.specs.declared.live.LiveRecord.{LiveRecord}
use Rattle.collector.specs.Store.{store, geometry_of, Holds}
use Rattle.collector.specs.Effects.{recorded, filled, after_record, block_in, former_in}
use Rattle.collector.specs.Says.{SaysSame}
use Rattle.collector.specs.Again.{IsNextPage, IsLive, again, PutsAgain, AgainFails, MovedRecord, MoveFails}
use Rattle.collector.proofs.Blanks.{committed_header}
use Rattle.collector.proofs.Books.{active_within}
use Rattle.collector.proofs.Rows.{rows_same}
use Rattle.collector.proofs.Says.{cells_there, put_says}
use Rattle.collector.proofs.NextPage.{PutsNext, next_page, next_gate, next_page_within, later_unit, unit_of_page, unit_at_page, stores_from_gate, stored_before_gate}
use Rattle.collector.proofs.Tables.{former_some, entry_true}
use Rattle.collector.proofs.Recorded.{MayRecord, Recorded, after_active, in_block, next_may_record, next_recorded}
use Rattle.collector.proofs.Fresh.{next_put, next_holds, same_holds}

-- A live record is at hand, and the page that the Active block fills next.
pub record IsMoving (g : Geometry) (meaning : Meaning) (live : LiveRecord) (page : ℕ) (die : DieState) (book : BookValue) (table : List (Option Entry)) (seq : ℕ) : Type 0 where
  pub shape : die.shape ≡ shape_of g
  pub main_bytes : meaning.page_bytes ≡ g.main_bytes
  pub span : meaning.span ≡ g.span
  pub sectors : length table ≡ g.sectors
  pub decodes : Decodes meaning
  pub shaped : IsShaped die
  pub tables : IsTrue g die.cells book table seq
  pub fresh : seq < 2 ^ 62
  pub is_live : IsLive g die.cells live
  pub next : (room : ℕ) × IsNextPage book page room

-- on a die and with a scheme that the buffers serve
pub geometry_shape : (sizes : Sizes) (shape : Shape) (meaning : Meaning) (sectors : ℕ) → Serves sizes shape → ServesScheme sizes meaning → shape ≡ shape_of (geometry_of shape meaning sectors)
geometry_shape sizes shape meaning sectors serves scheme =
    let spare : shape.spare_bytes ≡ 16 * meaning.generations = omega (arith, serves.spare_bytes, scheme.generations) in
    λ i. record { blocks = shape.blocks; pages = shape.pages; main_bytes = shape.main_bytes; spare_bytes = spare i }

pub is_moving : {sizes : Sizes} {meaning : Meaning} {live : LiveRecord} {page : ℕ} {die : DieState} {book : BookValue} {table : List (Option Entry)} {seq : ℕ} → Serves sizes die.shape
    → ServesScheme sizes meaning
    → Decodes meaning → IsShaped die → IsTrue (geometry_of die.shape meaning (length table)) die.cells book table seq → seq < 2 ^ 62
    → IsLive (geometry_of die.shape meaning (length table)) die.cells live
    → (room : ℕ) × IsNextPage book page room → IsMoving (geometry_of die.shape meaning (length table)) meaning live page die book table seq
is_moving {sizes} {meaning} {live} {page} {die} {book} {table} {seq} serves scheme decodes shaped tables fresh is_live next = record {
  shape = geometry_shape sizes die.shape meaning (length table) serves scheme;
  main_bytes = scheme.page_bytes ∙ sym serves.main_bytes;
  span = refl;
  sectors = refl;
  decodes = decodes;
  shaped = shaped;
  tables = tables;
  fresh = fresh;
  is_live = is_live;
  next = next;
}

again_says : (h : Header) (seq : ℕ) → says_zeros (again h seq) ≡ says_zeros h
again_says h seq = at (says_zeros h)
  where
    at : (t : Bool) → ((if t then 3 else 1) == 3 || (if t then 3 else 1) == 4) ≡ t
    at true = refl
    at false = refl

again_single : (h : Header) (seq : ℕ) → is_copy (again h seq) ≡ false
again_single h seq = at (says_zeros h)
  where
    at : (t : Bool) → ((if t then 3 else 1) == 2 || (if t then 3 else 1) == 4) ≡ false
    at true = refl
    at false = refl

again_header : (h : Header) (seq : ℕ) → IsHeader h → seq < 2 ^ 62 → IsHeader (again h seq)
again_header h seq is small = record { sector = is.sector; seq = omega arith; least_kind = (at (says_zeros h)).0; greatest_kind = (at (says_zeros h)).1 }
  where
    at : (t : Bool) → (1 ≤ (if t then 3 else 1)) × ((if t then 3 else 1) ≤ 4)
    at true = (omega arith, omega arith)
    at false = (omega arith, omega arith)

-- an entry goes by the place and by what the record says
entry_again : (place : Place) (h : Header) (seq : ℕ) → entry_of (Some (record { place = place; header = again h seq })) ≡ entry_of (Some (record { place = place; header = h }))
entry_again place h seq =
    ap (λ (t : Bool). if t then Some (Zeros (record { page = place.page; slot = place.slot })) else Some (Held (record { page = place.page; slot = place.slot }))) (again_says h seq)

-- the units of a block fit it
units_fit : (w s : ℕ) → w / s * s ≤ w
units_fit w s = omega (arith, div-add-mod' w s)

module _ {g : Geometry} {meaning : Meaning} {live : LiveRecord} {page : ℕ} {die : DieState} {book : BookValue} {table : List (Option Entry)} {seq : ℕ}
    (m : IsMoving g meaning live page die book table seq) where
  abbrev block : ℕ
  block = m.next.1.block

  abbrev fill : ℕ
  fill = m.next.1.fill

  abbrev moved : Header
  moved = again live.header seq

  at_page : page ≡ next_page g m.next.1.block m.next.1.fill
  at_page = m.next.1.page_is ∙ ap (λ (n : ℕ). m.next.1.block * n + m.next.1.fill) m.tables.sizes.pages

  within : m.next.1.block < g.blocks
  within = omega (arith, active_within book m.next.1.block m.next.1.fill m.next.1.active, m.tables.sizes.blocks)

  active_block : IsTrueActive g die.cells m.next.1.block m.next.1.fill
  active_block = subst (IsTrueState g die.cells m.next.1.block) m.next.1.active (m.tables.states m.next.1.block within)

  slots : 1 ≤ g.generations
  slots = omega (arith, m.tables.kept.two_generations, m.tables.sizes.generations)

  -- ---- before the put

  pub page_within : page < page_count g
  page_within = subst (λ (q : ℕ). q < page_count g) (sym at_page) (next_page_within g block fill within active_block.room)

  pub page_blank : is_blank (page_at die.cells page) ≡ true
  page_blank = ap (λ (q : ℕ). is_blank (page_at die.cells q)) at_page ∙ active_block.blank m.next.1.fill (omega arith) active_block.room

  committed : committed_in g die.cells live.place ≡ Some live.header
  committed = live_counts g die.cells live.header.sector (record { place = live.place; header = live.header }) m.is_live.is

  pub unit_within : live.place.page + reads_of meaning live.place ≤ page_count g
  unit_within = at (cases_Bool (live.place.slot == 0))
    where
      may : may_hold g live.place ≡ true
      may = committed_holds g die.cells live.place live.header committed

      page_in : live.place.page < page_count g
      page_in = (holds_within g live.place slots may).0

      room : (b u s n w p q : ℕ) → p ≡ b * w + u * s → u < q → q * s ≤ w → b < n → p + s ≤ n * w
      room b u s n w p q e below fits inside = omega (arith, mul-le-mul_right w inside, suc-mul b w, mul-le-mul_right s below, suc-mul u s)

      at : ((live.place.slot == 0) ≡ true) ⊎ ((live.place.slot == 0) ≡ false) → live.place.page + reads_of meaning live.place ≤ page_count g
      at (inl first) = subst (λ (t : Bool). live.place.page + (if t then 1 else meaning.span) ≤ page_count g) (sym first) (omega (arith, page_in))
      at (inr later) =
          let u = later_unit g live.place may later in
          let of = unit_of_page g live.place.page u.1 in
          subst (λ (t : Bool). live.place.page + (if t then 1 else meaning.span) ≤ page_count g) (sym later)
          (subst (λ (n : ℕ). live.place.page + n ≤ page_count g) (sym m.span)
          (room (block_of g live.place.page) (unit_at_page g live.place.page) g.span g.blocks g.pages live.place.page (units g) of.1 of.0 (units_fit g.pages g.span)
          (div_below live.place.page g.pages g.blocks (omega (arith, active_block.room)) page_in)))

  -- ---- after the put

  module _ {new : DieState} (p : PutsAgain meaning live page die seq new) (kept : Kept die new) (shaped_new : IsShaped new) where
    pub puts_next : PutsNext g m.next.1.block m.next.1.fill (again live.header seq) die.cells new.cells
    puts_next = next_put g block fill moved die new book table seq (subst (λ (q : ℕ). Puts (SaysSame meaning die live.place live.header page) 1 (first_slot q) moved die new) at_page p)
        m.shape kept.shape m.shaped shaped_new
        m.tables m.next.1.active m.fresh refl (again_header live.header seq
        (spelled_from_read _ live.header (committed_header g die.cells live.place live.header committed)).0 m.fresh) m.is_live.sector (again_single live.header seq)

    -- what it keeps, in either outcome
    pub moving_holds : (table' : List (Option Entry)) (book' : BookValue) (seq' : ℕ) → seq' ≡ seq + 1 → Holds g (store die table book seq) (store new table' book' seq')
    moving_holds table' book' seq' next = next_holds g block fill moved (store die table book seq) (store new table' book' seq') puts_next kept m.tables m.next.1.active m.fresh refl next

    gate_is : next_gate g m.next.1.block m.next.1.fill new.cells ≡ is_gated new (first_slot page)
    gate_is = λ i. is_gate_charged (drop (main i) (page_at new.cells (sym at_page i))) 0
      where
        main : g.main_bytes ≡ new.shape.main_bytes
        main = sym (ap (λ (s : Shape). s.main_bytes) (kept.shape ∙ m.shape))

    -- the record says the same
    says_same : next_gate g m.next.1.block m.next.1.fill new.cells ≡ true
        → said_by g meaning.decoding new.cells (Some (record { place = first_slot (next_page g m.next.1.block m.next.1.fill); header = again live.header seq }))
        ≡ said_by g meaning.decoding die.cells (live_record g die.cells live.header.sector)
    says_same charged =
        ap (λ (q : ℕ). said_by g meaning.decoding new.cells (Some (record { place = first_slot q; header = again live.header seq }))) (sym at_page)
        ∙ (put_says g meaning live.place live.header (again live.header seq) page die new p m.shape m.main_bytes m.span (sym gate_is ∙ charged) m.decodes (again_says live.header seq)
        ∙ sym (ap (said_by g meaning.decoding die.cells) m.is_live.is))

    -- all sectors stay, in either outcome
    pub moving_rows : stored g meaning.decoding new.cells ≡ stored g meaning.decoding die.cells
    moving_rows = elim (cases_Bool (next_gate g block fill new.cells)) [
      | inl charged ↦ rows_same g meaning.decoding (first_slot (next_page g block fill)) moved die.cells new.cells
          (stores_from_gate g block fill moved die.cells new.cells puts_next meaning.decoding charged) (says_same charged)
      | inr open' ↦ stored_before_gate g block fill moved die.cells new.cells puts_next meaning.decoding open'
    ]

    -- ---- the record effect

    -- on the book that the put leaves
    module _ (entry : Entry) (placed : place_of entry ≡ record { page = page; slot = 0 }) {left_book : BookValue} (same : left_book ≡ book) where
      placed_next : place_of entry ≡ record { page = next_page g m.next.1.block m.next.1.fill; slot = 0 }
      placed_next = placed ∙ (λ i. record { page = at_page i; slot = 0 })

      -- what it asks
      pub moving_may_record : MayRecord left_book table live.header.sector entry
      moving_may_record = subst (λ (b : BookValue). MayRecord b table live.header.sector entry) (sym same)
          (next_may_record g block fill moved die.cells new.cells puts_next book table seq m.tables m.next.1.active m.sectors entry placed_next)

      -- and what it leaves
      module _ (table' : List (Option Entry)) (book' : BookValue) (seq' : ℕ) (gated : is_gated new (first_slot page) ≡ true) (drawn : seq' ≡ seq + 1)
          (names : entry_of (Some (record { place = first_slot page; header = live.header })) ≡ Some entry) (map_is : table' ≡ slice_set table live.header.sector (Some entry))
          (effect : book' ≡ after_record left_book (block_in left_book entry) (former_in left_book (entry_at table live.header.sector))) where
        book_is : book' ≡ after_record book (block_in book entry) (former_in book (entry_at table live.header.sector))
        book_is = subst (λ (b : BookValue). book' ≡ after_record b (block_in b entry) (former_in b (entry_at table live.header.sector))) same effect

        entry_moved : entry_of (Some (record { place = first_slot (next_page g m.next.1.block m.next.1.fill); header = again live.header seq })) ≡ Some entry
        entry_moved = ap (λ (q : ℕ). entry_of (Some (record { place = first_slot q; header = again live.header seq }))) (sym at_page) ∙ (entry_again (first_slot page) live.header seq ∙ names)

        left : Recorded g meaning.decoding m.next.1.block m.next.1.fill (again live.header seq) (store die table book seq) (store new table' book' seq')
        left =
            next_recorded g meaning.decoding block fill moved (store die table book seq) (store new table' book' seq') entry puts_next
            (gate_is ∙ gated) m.tables m.next.1.active refl placed_next entry_moved map_is book_is drawn

        former_is : former_in book (entry_at table live.header.sector) ≡ Some (block_of g live.place.page)
        former_is = ap (former_in book) (entry_true g die.cells book table seq m.tables live.header.sector m.is_live.sector ∙ ap entry_of m.is_live.is)
            ∙ former_some g book (record { place = live.place; header = live.header }) m.tables.sizes.pages

        pub moved_record : MovedRecord g meaning.decoding live page (store die table book seq) (store new table' book' seq')
        moved_record = record {
          there = left.live ∙ ap (λ (q : ℕ). Some (record { place = first_slot q; header = again live.header seq })) (sym at_page);
          others = left.others;
          cells = cells_there g meaning live.place live.header (again live.header seq) page die new p m.shape m.main_bytes m.span gated;
          rows = moving_rows;
          book = λ b f active.
              book_is ∙ (ap (λ (c : ℕ). after_record book c (former_in book (entry_at table live.header.sector))) (in_block g block fill book entry m.tables.sizes.pages active_block.room placed_next
              ∙ m.tables.kept.one_active m.next.1.block b (ap is_active m.next.1.active) (ap is_active active))
              ∙ (after_active book b f (former_in book (entry_at table live.header.sector)) active ∙ ap (λ (o : Option ℕ). filled (recorded book b o) b) former_is));
          seq = drawn;
          tables = left.tables;
        }

-- ---- how the move fails

-- a put that failed leaves the tables
pub failed_ends : {g : Geometry} {meaning : Meaning} {live : LiveRecord} {page : ℕ} {old new : DieState} {book left_book : BookValue} {table : List (Option Entry)} {seq : ℕ}
    → IsMoving g meaning live page old book table seq → Kept old new → IsShaped new → left_book ≡ book → (seq' : ℕ) (fault : PutFault) → AgainFails meaning live page fault old seq new seq'
    → MoveFails g meaning live fault (store old table book seq) (store new table left_book seq')
failed_ends {new = new} {table = table} m kept shaped same seq' Read e = ((λ i. record { die = new; table = table; book = same i; seq = e.2 i }), e.0, e.1)
failed_ends {new = new} {table = table} m kept shaped same seq' Change e = ((λ i. record { die = new; table = table; book = same i; seq = e.2 i }), moving_rows m e.0 kept shaped, e.1)

pub failed_holds : {g : Geometry} {meaning : Meaning} {live : LiveRecord} {page : ℕ} {old new : DieState} {book left_book : BookValue} {table : List (Option Entry)} {seq : ℕ}
    → IsMoving g meaning live page old book table seq → Kept old new → IsShaped new → left_book ≡ book → (seq' : ℕ) (fault : PutFault) → AgainFails meaning live page fault old seq new seq'
    → Holds g (store old table book seq) (store new table left_book seq')
failed_holds {g = g} {old = old} {new = new} {book = book} {left_book = left_book} {table = table} {seq = seq} m kept shaped same seq' Read e =
    same_holds g (store old table book seq) (store new table left_book seq') kept e.0 e.2
failed_holds {left_book = left_book} {table = table} m kept shaped same seq' Change e = moving_holds m e.0 kept shaped table left_book seq' e.2
