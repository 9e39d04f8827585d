-- A record that is no copy is put on the next page of the Active block. Up to its gate all live records and sectors stay; from
-- its gate on it is the live record of its sector, and no other sector changes.
use Rattle.std.proofs.Common.{◌≡◌, ◌≢◌, ◌⊎◌, inl, inr, ℕ, ◌+◌, ◌*◌, ◌/◌, ◌%◌, ◌<◌, ◌≤◌, Bool, true, false, List, ◌&&◌, ◌||◌, ◌==◌, nat_lt, if◌then◌else◌, Some, None, sym, ap, ◌∙◌, arith, subst}
use Rattle.std.proofs.lemmas.Bool.{cases_lt, cases_Bool, and_parts, or_cases, eqb-true, ltb-true, lt-ltb, eq-eqb, false≢true}
use Rattle.std.proofs.lemmas.Nat.{div-mul-add, div-add-mod', mul-add-lt}
use Rattle.std.proofs.lemmas.Option.{none-some}
use native.Mathlib.Nat.{mul-le-mul_right, suc-mul, mul_comm, div-zero}
use Rattle.zero_count.specs.declared.Header.{Header}
use Rattle.zero_count.specs.HeaderWord.{IsHeader}
use Rattle.cell_die.specs.Cells.{page_at, is_blank}
use Rattle.striped.specs.Meaning.{Decoding}
use Rattle.spare_gate.specs.Slots.{is_gate_charged}
use Rattle.page_codec.specs.declared.place.Place.{Place}
use Rattle.page_codec.specs.Geometry.{Geometry, page_count, block_of, units, unit_page, is_unit_page, spare_at}
use Rattle.page_codec.specs.Records.{header_in, may_hold, is_copy, committed_in, live_record}
use Rattle.page_codec.specs.Sectors.{stored}
use Rattle.page_codec.specs.Gate.{GateWins}
use Rattle.page_codec.specs.Puts.{first_slot}
use Rattle.page_codec.specs.Promises.{HoldsRecord}
use Rattle.page_codec.specs.TrueBook.{IsTrueActive}
use Rattle.page_codec.proofs.Live.{committed_holds, live_counts}
use Rattle.page_codec.proofs.Changes.{ungated}
use Rattle.page_codec.proofs.PutLaws.{PutsCells, put_keeps_live, put_wins}
use Rattle.page_codec.proofs.PutStored.{NoneReads, StoresOne, put_keeps_stored, put_stores}
use Rattle.collector.proofs.Blanks.{blank_page_slot, blank_page_gate, blank_slot_header, committed_header}

-- the next page of an Active block
abbrev pub next_page : Geometry → ℕ → ℕ → ℕ
next_page g block fill = block * g.pages + fill

-- A put of a single record on the next page of the Active block, in either outcome.
pub record PutsNext (g : Geometry) (block fill : ℕ) (h : Header) (old new : List (List ℕ)) : Type 0 where
  pub block_in : block < g.blocks
  pub slots : 1 ≤ g.generations
  pub active : IsTrueActive g old block fill
  pub header : IsHeader h
  pub sector : h.sector < g.sectors
  pub single : is_copy h ≡ false
  pub fresh : (place : Place) (k : Header) → header_in g old place ≡ Some k → k.seq < h.seq
  pub put : PutsCells g (first_slot (next_page g block fill)) h old new
  pub only : (page : ℕ) → page ≢ next_page g block fill → page_at new page ≡ page_at old page

-- the gate of that record
abbrev pub next_gate : Geometry → ℕ → ℕ → List (List ℕ) → Bool
next_gate g block fill cells = is_gate_charged (spare_at g cells (next_page g block fill)) 0

-- ---- pages and units

pub block_of_next : (g : Geometry) (block fill : ℕ) → fill < g.pages → block_of g (next_page g block fill) ≡ block
block_of_next g block fill room = div-mul-add block g.pages fill room

pub next_page_within : (g : Geometry) (block fill : ℕ) → block < g.blocks → fill < g.pages → next_page g block fill < page_count g
next_page_within g block fill within room = subst (λ (n : ℕ). next_page g block fill < n) (mul_comm g.pages g.blocks) (mul-add-lt block g.pages fill g.blocks within room)

pub may_hold_next : (g : Geometry) (block fill : ℕ) → block < g.blocks → fill < g.pages → may_hold g (first_slot (next_page g block fill)) ≡ true
may_hold_next g block fill within room =
    ap (λ (t : Bool). t && (0 == 0 || nat_lt 0 g.generations && is_unit_page g (next_page g block fill))) (lt-ltb _ _ (next_page_within g block fill within room))

-- a later slot is one of a unit's first page
pub later_unit : (g : Geometry) (place : Place) → may_hold g place ≡ true → (place.slot == 0) ≡ false → (place.slot < g.generations) × (is_unit_page g place.page ≡ true)
later_unit g place holds later = elim (or_cases _ _ (and_parts _ _ holds).1) [
  | inl first ↦ absurd (false≢true (sym later ∙ first))
  | inr more ↦ (let parts = and_parts _ _ more in (ltb-true _ _ parts.0, parts.1))
]

-- the unit that a page begins
abbrev pub unit_at_page : Geometry → ℕ → ℕ
unit_at_page g page = page % g.pages / g.span

pub unit_of_page : (g : Geometry) (page : ℕ) → is_unit_page g page ≡ true → (unit_at_page g page < units g) × (page ≡ unit_page g (block_of g page) (unit_at_page g page))
unit_of_page g page first =
    let parts = and_parts _ _ first in
    let even : page % g.pages % g.span ≡ 0 = eqb-true _ _ parts.0 in (
      ltb-true _ _ parts.1,
      whole page (page % g.pages) (page / g.pages * g.pages) (page % g.pages / g.span * g.span) (page % g.pages % g.span) (div-add-mod' page g.pages)
          (div-add-mod' (page % g.pages) g.span) even,
    )
  where
    whole : (n r b u s : ℕ) → b + r ≡ n → u + s ≡ r → s ≡ 0 → n ≡ b + u
    whole n r b u s e f z = omega arith

-- where a block has a unit, a unit has a page
pub some_span : (g : Geometry) (u : ℕ) → u < units g → 0 < g.span
some_span g u within = elim (cases_lt 0 g.span) [
  | inl some ↦ some
  | inr none ↦ (
      let no_pages : g.span ≡ 0 = omega arith in
      let no_units : units g ≡ 0 = ap (λ (n : ℕ). g.pages / n) no_pages ∙ div-zero g.pages in
      absurd (omega (arith, within, no_units)))
]

-- the pages of a unit stand in one block
pub unit_block : (g : Geometry) (page i : ℕ) → is_unit_page g page ≡ true → i < g.span → block_of g (page + i) ≡ block_of g page
unit_block g page i first within =
    let parts = and_parts _ _ first in
    let even : page % g.pages % g.span ≡ 0 = eqb-true _ _ parts.0 in
    let below : page % g.pages / g.span < g.pages / g.span = ltb-true _ _ parts.1 in
    ap (λ (n : ℕ). n / g.pages) (whole page i g.pages) ∙ div-mul-add (page / g.pages) g.pages (page % g.pages + i) (room (page % g.pages) g.pages g.span i (omega arith) even below within)
  where
    whole : (n k w : ℕ) → n + k ≡ n / w * w + (n % w + k)
    whole n k w = omega (arith, div-add-mod' n w)

    room : (r w s k : ℕ) → 0 < s → r % s ≡ 0 → r / s < w / s → k < s → r + k < w
    room r w s k some even below l = omega (arith, div-add-mod' r s, div-add-mod' w s, mul-le-mul_right s below, suc-mul (r / s) s)

module _ (g : Geometry) (block fill : ℕ) (h : Header) (old new : List (List ℕ)) (p : PutsNext g block fill h old new) where
  abbrev page : ℕ
  page = next_page g block fill

  abbrev place : Place
  place = first_slot (next_page g block fill)

  blank_before : is_blank (page_at old page) ≡ true
  blank_before = p.active.blank fill (omega arith) p.active.room

  pub gate_before : is_gate_charged (spare_at g old page) 0 ≡ false
  gate_before = blank_page_gate g old page 0 blank_before

  -- no record stands on the page
  pub no_record_before : (slot : ℕ) (k : Header) → header_in g old (record { page = page; slot = slot }) ≡ Some k → ⊥
  no_record_before slot k e = none-some k (sym (blank_slot_header (spare_at g old page) slot (blank_page_slot g old page slot blank_before)) ∙ e)

  pub none_committed : committed_in g old place ≡ None
  none_committed = ungated g old place gate_before

  pub newest : (other : Place) (k : Header) → committed_in g old other ≡ Some k → k.seq < h.seq
  newest other k e = p.fresh other k (committed_header g old other k e)

  pub holds_record : HoldsRecord g place h
  holds_record = record { slots = p.slots; may = may_hold_next g block fill p.block_in p.active.room; sector = p.sector; header = p.header }

  -- no record stands in a later slot of a unit of the Active block
  no_later : (x : Place) (k : Header) → header_in g old x ≡ Some k → is_unit_page g x.page ≡ true → block_of g x.page ≡ block → 0 < x.slot → x.slot < g.generations → ⊥
  no_later x k e first inside low high =
      let u = unit_of_page g x.page first in
      let at : x.page ≡ unit_page g block (unit_at_page g x.page) = u.1 ∙ ap (λ (b : ℕ). unit_page g b (unit_at_page g x.page)) inside in
      let blank = p.active.above (unit_at_page g x.page) x.slot u.0 low high in
      none-some k (sym (ap (λ (q : ℕ). header_in g old (record { page = q; slot = x.slot })) at ∙ blank_slot_header (spare_at g old (unit_page g block (unit_at_page g x.page))) x.slot blank) ∙ e)

  -- no live record is read from the page
  pub none_reads : NoneReads g old new
  none_reads sector x e i within = p.only (x.place.page + i) (λ same. missed same (cases_Bool (x.place.slot == 0)))
    where
      stands : header_in g old x.place ≡ Some x.header
      stands = committed_header g old x.place x.header (live_counts g old sector x e)

      missed : x.place.page + i ≡ next_page g block fill → ((x.place.slot == 0) ≡ true) ⊎ ((x.place.slot == 0) ≡ false) → ⊥
      missed same (inl first) =
          let one : i < 1 = subst (λ (t : Bool). i < (if t then 1 else g.span)) first within in
          let here : x.place.page ≡ next_page g block fill = omega arith in
          no_record_before x.place.slot x.header (ap (λ (q : ℕ). header_in g old (record { page = q; slot = x.place.slot })) (sym here) ∙ stands)
      missed same (inr later) =
          let inner : i < g.span = subst (λ (t : Bool). i < (if t then 1 else g.span)) later within in
          let u = later_unit g x.place (committed_holds g old x.place x.header (live_counts g old sector x e)) later in
          let inside : block_of g x.place.page ≡ block = sym (unit_block g x.place.page i u.1 inner) ∙ (ap (block_of g) same ∙ block_of_next g block fill p.active.room) in
          let apart : x.place.slot ≢ 0 = λ zero_slot. false≢true (sym later ∙ eq-eqb x.place.slot 0 zero_slot) in
          no_later x.place x.header stands u.1 inside (omega (arith, apart)) u.0

  -- ---- up to the gate

  pub live_before_gate : next_gate g block fill new ≡ false → (sector : ℕ) → live_record g new sector ≡ live_record g old sector
  live_before_gate open' sector = put_keeps_live g place h old new p.put gate_before open' sector

  pub stored_before_gate : (d : Decoding) → next_gate g block fill new ≡ false → stored g d new ≡ stored g d old
  stored_before_gate d open' = put_keeps_stored g d place h old new p.put gate_before open' none_reads

  -- ---- from the gate on

  pub wins_from_gate : next_gate g block fill new ≡ true → GateWins g old new place h
  wins_from_gate charged = put_wins g place h old new p.put holds_record p.single gate_before charged newest

  pub stores_from_gate : (d : Decoding) → next_gate g block fill new ≡ true → StoresOne g d place h old new
  stores_from_gate d charged = put_stores g d place h old new p.put holds_record p.single gate_before charged newest none_reads
