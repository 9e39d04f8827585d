-- A put over an offered unit: where it was carried, the tables are true after the record effect and the pass.
use Rattle.std.proofs.Common.{◌≡◌, ◌≢◌, ◌⊎◌, inl, inr, ℕ, ◌+◌, ◌-◌, ◌*◌, ◌/◌, ◌%◌, ◌<◌, ◌≤◌, Bool, true, false, List, drop, length, if◌then◌else◌, ◌||◌, ◌==◌, Some, None, refl, sym, ap, ◌∙◌}
use Rattle.std.proofs.Common.{subst, arith}
use Rattle.std.specs.Prelude.{slice_set}
use Rattle.std.proofs.lemmas.Bool.{cases_eq, cases_lt, eq-eqb, ne_eqb, lt-ltb, and_from}
use Rattle.std.proofs.lemmas.Option.{same_Some}
use Rattle.std.proofs.lemmas.Nat.{div-mul-add, mod-mul-add}
use native.Mathlib.Nat.{mul-le-mul_right, suc-mul}
use Rattle.zero_count.specs.declared.Header.{Header}
use Rattle.zero_count.specs.HeaderWord.{IsHeader}
use Rattle.cell_die.specs.Cells.{page_at, with_charged}
use Rattle.striped.specs.Meaning.{Decoding}
use Rattle.spare_gate.specs.Slots.{is_gate_charged, is_slot_blank, with_header, with_record, gate_cell_of}
use Rattle.spare_gate.proofs.Blank.{header_keeps_blank, gate_keeps_blank}
use Rattle.block_state.specs.declared.state.State.TheVariants.{Used, Recycled, Reused}
use Rattle.block_state.specs.Book.{BookValue}
use Rattle.reuse_pool.specs.declared.unit.ReuseUnit.{ReuseUnit}
use Rattle.reuse_pool.specs.Offer.{passed}
use Rattle.page_codec.specs.declared.place.Place.{Place}
use Rattle.page_codec.specs.Geometry.{Geometry, block_of, page_count, units, unit_page, is_unit_page, spare_at}
use Rattle.page_codec.specs.Records.{Placed, header_in, may_hold, is_copy, committed_in, live_record}
use Rattle.page_codec.specs.Sectors.{said_by, stored}
use Rattle.page_codec.specs.Gate.{GateWins}
use Rattle.page_codec.specs.Promises.{HoldsRecord}
use Rattle.page_codec.specs.TrueBook.{BlankAbove, IsTrueState, IsTrueRecycled, UnitSlotBlank}
use Rattle.page_codec.proofs.Changes.{ungated}
use Rattle.page_codec.proofs.PutLaws.{PutsCells, put_keeps_live, put_wins}
use Rattle.page_codec.proofs.PutStored.{NoneReads, StoresOne, put_keeps_stored, put_stores}
use Rattle.page_codec.proofs.PutUnit.{blank_ungated}
use Rattle.rssd_core.specs.Steps.{IsSized, place_in}
use Rattle.rssd_core.proofs.BlockLaws.{BlockStays, block_of_unit, unit_within}
use Rattle.rssd_core.proofs.RecordLaws.{rows_move}
use Rattle.rssd_core.proofs.Wiping.{committed_header, live_within, read_in_block}

-- A put of a record over an offered unit, in any outcome.
pub record PutsOver (g : Geometry) (unit : ReuseUnit) (h : Header) (old new : List (List ℕ)) : Type 0 where
  pub sized : IsSized g
  pub inside : unit.block < g.blocks
  pub offered : IsTrueRecycled g old unit.block unit.slot unit.number
  pub header : IsHeader h
  pub sector : h.sector < g.sectors
  pub single : is_copy h ≡ false
  pub fresh : (place : Place) (k : Header) → header_in g old place ≡ Some k → k.seq < h.seq
  pub put : PutsCells g (place_in g unit) h old new
  pub only : (page : ℕ) → (page < unit_page g unit.block unit.number) ⊎ (unit_page g unit.block unit.number + g.span ≤ page) → page_at new page ≡ page_at old page

-- the gate of that record
abbrev pub over_gate : Geometry → ReuseUnit → List (List ℕ) → Bool
over_gate g unit cells = is_gate_charged (spare_at g cells (unit_page g unit.block unit.number)) unit.slot

-- a record in a slot leaves every other slot as blank as it was
record_keeps_blank : (spare : List ℕ) (slot other : ℕ) (h : Header) → 16 * slot + 16 ≤ length spare → other ≢ slot → is_slot_blank (with_record spare slot h) other ≡ is_slot_blank spare other
record_keeps_blank spare slot other h room apart =
    ap (λ (cell : ℕ). is_slot_blank (with_charged (with_header spare slot h) cell) other) (cell_is slot)
    ∙ (gate_keeps_blank 0 (with_header spare slot h) slot other apart ∙ header_keeps_blank spare slot h other room apart)
  where
    cell_is : (slot : ℕ) → 128 * slot ≡ gate_cell_of 0 slot
    cell_is slot = omega arith

-- ---- places

pub unit_page_is_first : (g : Geometry) (block u : ℕ) → IsSized g → u < units g → is_unit_page g (unit_page g block u) ≡ true
unit_page_is_first g block u sized within =
    let room : u * g.span < g.pages = omega (arith, unit_within g u sized.span within) in
    let inner : unit_page g block u % g.pages ≡ u * g.span = mod-mul-add block g.pages (u * g.span) room in
    let even : u * g.span % g.span ≡ 0 = ap (λ (n : ℕ). n % g.span) (plus_none (u * g.span)) ∙ mod-mul-add u g.span 0 sized.span in
    let whole : u * g.span / g.span ≡ u = ap (λ (n : ℕ). n / g.span) (plus_none (u * g.span)) ∙ div-mul-add u g.span 0 sized.span in
    and_from _ _ (eq-eqb _ 0 (ap (λ (n : ℕ). n % g.span) inner ∙ even))
    (lt-ltb _ _ (subst (λ (n : ℕ). n < units g) (sym (ap (λ (n : ℕ). n / g.span) inner ∙ whole)) within))
  where
    plus_none : (n : ℕ) → n ≡ n + 0
    plus_none n = omega arith

pub unit_below : (g : Geometry) (block u : ℕ) → IsSized g → block < g.blocks → u < units g → unit_page g block u + g.span ≤ page_count g
unit_below g block u sized inside within = below block g.blocks g.pages (u * g.span) g.span inside (unit_within g u sized.span within)
  where
    below : (b n w i s : ℕ) → b < n → i + s ≤ w → b * w + i + s ≤ n * w
    below b n w i s h k = omega (arith, mul-le-mul_right w h, suc-mul b w)

or_right : (a b : Bool) → b ≡ true → (a || b) ≡ true
or_right true b h = refl
or_right false b h = h

module _ (g : Geometry) (unit : ReuseUnit) (h : Header) (old new : List (List ℕ)) (p : PutsOver g unit h old new) where
  abbrev page : ℕ
  page = unit_page g unit.block unit.number

  pub slot_blank : is_slot_blank (spare_at g old (unit_page g unit.block unit.number)) unit.slot ≡ true
  slot_blank = p.offered.blank unit.number (omega arith) p.offered.more

  pub gate_before : over_gate g unit old ≡ false
  gate_before = blank_ungated (spare_at g old (unit_page g unit.block unit.number)) unit.slot slot_blank

  pub none_committed : committed_in g old (place_in g unit) ≡ None
  none_committed = ungated g old (place_in g unit) gate_before

  pub may : may_hold g (place_in g unit) ≡ true
  may = and_from _ _ (lt-ltb _ _ (omega (arith, unit_below g unit.block unit.number p.sized p.inside p.offered.more, p.sized.span)))
      (or_right (unit.slot == 0) _ (and_from _ _ (lt-ltb _ _ p.offered.high) (unit_page_is_first g unit.block unit.number p.sized p.offered.more)))

  pub holds_record : HoldsRecord g (place_in g unit) h
  holds_record = record { slots = omega (arith, p.sized.two_slots); may = may; sector = p.sector; header = p.header }

  newest : (other : Place) (k : Header) → committed_in g old other ≡ Some k → k.seq < h.seq
  newest other k e = p.fresh other k (committed_header g old other k e)

  pub block_is : block_of g (unit_page g unit.block unit.number) ≡ unit.block
  block_is = block_of_unit g unit.block unit.number p.sized.span p.offered.more

  -- a page of another block is none of the unit's
  other_block : (q : ℕ) → block_of g q ≢ unit.block → page_at new q ≡ page_at old q
  other_block q apart = elim (cases_lt q (unit_page g unit.block unit.number)) [
    | inl before ↦ p.only q (inl before)
    | inr from ↦ elim (cases_lt q (unit_page g unit.block unit.number + g.span)) [
      | inr behind ↦ p.only q (inr behind)
      | inl within ↦ absurd (apart (inner unit.block g.pages unit.number g.span q (unit_within g unit.number p.sized.span p.offered.more) from within))
    ]
  ]
    where
      inner : (b w u s q : ℕ) → u * s + s ≤ w → b * w + u * s ≤ q → q < b * w + u * s + s → q / w ≡ b
      inner b w u s q room from within = ap (λ (n : ℕ). n / w) (at (b * w) q (u * s) from) ∙ div-mul-add b w (q - b * w) (omega arith)
        where
          at : (a q c : ℕ) → a + c ≤ q → q ≡ a + (q - a)
          at a q c from = omega arith

  -- the first page of another unit of the block is none of the unit's
  other_unit : (u : ℕ) → u ≢ unit.number → page_at new (unit_page g unit.block u) ≡ page_at old (unit_page g unit.block u)
  other_unit u apart = elim (cases_lt u unit.number) [
    | inl before ↦ p.only (unit_page g unit.block u) (inl (omega (arith, mul-le-mul_right g.span before, suc-mul u g.span, p.sized.span)))
    | inr from ↦ (
        let after : unit.number < u = omega arith in
        p.only (unit_page g unit.block u) (inr (omega (arith, mul-le-mul_right g.span after, suc-mul unit.number g.span))))
  ]

  -- no live record is read from the unit
  pub none_reads : NoneReads g old new
  none_reads sector x e i within = elim (cases_eq (block_of g x.place.page) unit.block) [
    | inr apart ↦ other_block (x.place.page + i) (λ here. apart (sym (read_in_block g old sector i x p.sized e within) ∙ here))
    | inl here ↦ before (p.offered.live sector x (live_within g old sector x e) e here)
  ]
    where
      before : (x.place.slot ≡ unit.slot) × ((u : ℕ) × (u < unit.number) × (x.place.page ≡ unit_page g unit.block u)) → page_at new (x.place.page + i) ≡ page_at old (x.place.page + i)
      before at =
          let later : (x.place.slot == 0) ≡ false = ne_eqb x.place.slot 0 (λ zero_slot. omega (arith, at.0, p.offered.low)) in
          let inner : i < g.span = subst (λ (t : Bool). i < (if t then 1 else g.span)) later within in
          p.only (x.place.page + i) (inl (omega (arith, at.1.2, mul-le-mul_right g.span at.1.1, suc-mul at.1.0 g.span)))

  -- ---- up to the gate

  pub live_before_gate : over_gate g unit new ≡ false → (sector : ℕ) → live_record g new sector ≡ live_record g old sector
  live_before_gate open' sector = put_keeps_live g (place_in g unit) h old new p.put gate_before open' sector

  pub stored_before_gate : (d : Decoding) → over_gate g unit new ≡ false → stored g d new ≡ stored g d old
  stored_before_gate d open' = put_keeps_stored g d (place_in g unit) h old new p.put gate_before open' none_reads

  -- ---- from the gate on

  pub wins_from_gate : over_gate g unit new ≡ true → GateWins g old new (place_in g unit) h
  wins_from_gate charged = put_wins g (place_in g unit) h old new p.put holds_record p.single gate_before charged newest

  pub stores_from_gate : (d : Decoding) → over_gate g unit new ≡ true → StoresOne g d (place_in g unit) h old new
  stores_from_gate d charged = put_stores g d (place_in g unit) h old new p.put holds_record p.single gate_before charged newest none_reads

  -- the row of the record's sector is set, and the others stay
  pub rows_from_gate : (d : Decoding) (bytes : List ℕ) → over_gate g unit new ≡ true → said_by g d new (Some (record { place = place_in g unit; header = h })) ≡ bytes
      → stored g d new ≡ slice_set (stored g d old) h.sector bytes
  rows_from_gate d bytes charged says = rows_move g d old new (place_in g unit) h bytes p.sector (stores_from_gate d charged) says

  -- ---- the block after the pass

  -- the spare area of the unit's first page, with the gate charged
  spare_there : over_gate g unit new ≡ true → spare_at g new (unit_page g unit.block unit.number) ≡ with_record (spare_at g old (unit_page g unit.block unit.number)) unit.slot h
  spare_there charged = ap (drop g.main_bytes) (p.put.whole charged (unit_page g unit.block unit.number)) ∙ p.put.record_there

  other_slot : over_gate g unit new ≡ true → (u slot : ℕ) → u < units g → (u ≡ unit.number → slot ≢ unit.slot) → UnitSlotBlank g old unit.block u slot → UnitSlotBlank g new unit.block u slot
  other_slot charged u slot within apart blank = elim (cases_eq u unit.number) [
    | inr other ↦ subst (λ (bytes : List ℕ). is_slot_blank (drop g.main_bytes bytes) slot ≡ true) (sym (other_unit u other)) blank
    | inl same ↦ subst (λ (v : ℕ). UnitSlotBlank g new unit.block v slot) (sym same)
        (ap (λ (spare : List ℕ). is_slot_blank spare slot) (spare_there charged)
        ∙ (record_keeps_blank (spare_at g old (unit_page g unit.block unit.number)) unit.slot slot h p.put.room (apart same)
        ∙ subst (λ (v : ℕ). UnitSlotBlank g old unit.block v slot) same blank))
  ]

  above_after : over_gate g unit new ≡ true → BlankAbove g new unit.block unit.slot
  above_after charged u slot within above few = other_slot charged u slot within (λ same. λ slot_same. omega arith) (p.offered.above u slot within above few)

  -- the live records of the block: those of the units before, and this one
  lives_after : over_gate g unit new ≡ true → (sector : ℕ) (placed : Placed) → sector < g.sectors → live_record g new sector ≡ Some placed → block_of g placed.place.page ≡ unit.block
      → (placed.place.slot ≡ unit.slot) × ((u : ℕ) × (u < unit.number + 1) × (placed.place.page ≡ unit_page g unit.block u))
  lives_after charged sector placed within e here = elim (cases_eq sector h.sector) [
    | inl own ↦ (
        let is : record { place = place_in g unit; header = h } ≡ placed = same_Some _ placed (sym (wins_from_gate charged).live ∙ (ap (live_record g new) (sym own) ∙ e)) in
        (sym (ap (λ (x : Placed). x.place.slot) is), (unit.number, omega arith, sym (ap (λ (x : Placed). x.place.page) is))))
    | inr other ↦ (
        let was = p.offered.live sector placed within (sym ((wins_from_gate charged).others sector other) ∙ e) here in
        (was.0, (was.1.0, omega (arith, was.1.1), was.1.2)))
  ]

  passed_last : over_gate g unit new ≡ true → (v : BookValue) → v.generations ≡ g.generations → IsTrueState g new unit.block (if unit.slot + 1 == v.generations then Reused else Used unit.slot)
  passed_last charged v slots = elim (cases_eq (unit.slot + 1) v.generations) [
    | inl last ↦ subst (λ (t : Bool). IsTrueState g new unit.block (if t then Reused else Used unit.slot)) (sym (eq-eqb _ _ last)) tt
    | inr more ↦ subst (λ (t : Bool). IsTrueState g new unit.block (if t then Reused else Used unit.slot)) (sym (ne_eqb _ _ more))
        (record { may_rise = omega (arith, slots, p.offered.high, more); above = above_after charged })
  ]

  pub passed_state : over_gate g unit new ≡ true → (v : BookValue) → v.units ≡ units g → v.generations ≡ g.generations → IsTrueState g new unit.block (passed v unit)
  passed_state charged v whole slots = elim (cases_eq (unit.number + 1) v.units) [
    | inl last ↦ subst (λ (t : Bool). IsTrueState g new unit.block (if t then (if unit.slot + 1 == v.generations then Reused else Used unit.slot) else Recycled unit.slot (unit.number + 1)))
        (sym (eq-eqb _ _ last))
        (passed_last charged v slots)
    | inr more ↦ subst (λ (t : Bool). IsTrueState g new unit.block (if t then (if unit.slot + 1 == v.generations then Reused else Used unit.slot) else Recycled unit.slot (unit.number + 1)))
        (sym (ne_eqb _ _ more))
        (record {
          low = p.offered.low;
          high = p.offered.high;
          more = omega (arith, whole, p.offered.more, more);
          blank = λ u from within. other_slot charged u unit.slot within (λ same. absurd (omega arith)) (p.offered.blank u (omega arith) within);
          above = above_after charged;
          live = lives_after charged;
        })
  ]

  -- another block stays, and its live records only leave it
  pub other_stays : over_gate g unit new ≡ true → (c : ℕ) → c ≢ unit.block → BlockStays g old new c
  other_stays charged c apart = record {
    pages = λ q here. other_block q (λ e. apart (sym here ∙ e));
    live = λ sector placed within e here. elim (cases_eq sector h.sector) [
      | inl own ↦ (
          let is : record { place = place_in g unit; header = h } ≡ placed = same_Some _ placed (sym (wins_from_gate charged).live ∙ (ap (live_record g new) (sym own) ∙ e)) in
          absurd (apart (sym here ∙ (ap (λ (x : Placed). block_of g x.place.page) (sym is) ∙ block_is))))
      | inr other ↦ sym ((wins_from_gate charged).others sector other) ∙ e
    ];
  }
