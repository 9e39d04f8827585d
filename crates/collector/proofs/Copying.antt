-- One copy more: its put leaves the facts inside a collection, and torn it changes no live record.
use Rattle.std.proofs.Common.{◌≡◌, ◌≢◌, inl, inr, ℕ, ◌+◌, ◌*◌, ◌<◌, ◌≤◌, Bool, true, false, List, [], ◌∷◌, ◌++◌, length, take, drop, ◌==◌, ◌||◌, if◌then◌else◌, Some, None, refl, sym, ap, ◌∙◌}
use Rattle.std.proofs.Common.{subst, arith}
use Rattle.std.proofs.lemmas.Bool.{cases_lt, and_from, lt-ltb}
use native.Mathlib.Nat.{mul-le-mul_right, suc-mul}
use Rattle.zero_count.specs.declared.Header.{Header}
use Rattle.zero_count.specs.HeaderWord.{IsHeader}
use Rattle.cell_die.specs.Cells.{page_at, is_blank}
use Rattle.striped.specs.Meaning.{Decoding}
use Rattle.spare_gate.specs.Slots.{header_at, is_gate_charged, is_slot_blank, with_header, with_record}
use Rattle.spare_gate.proofs.Blank.{header_keeps_blank, gate_keeps_blank}
use Rattle.page_codec.specs.declared.place.Place.{Place}
use Rattle.page_codec.specs.Geometry.{Geometry, block_of, page_count, spare_at}
use Rattle.page_codec.specs.Promises.{HoldsRecord}
use Rattle.page_codec.specs.Records.{Placed, may_hold, below_sectors, record_in, is_copy, is_sealed, live_record}
use Rattle.page_codec.specs.Sectors.{said_by, says_zeros, zero_sector, InCells}
use Rattle.page_codec.proofs.PutLaws.{PutsCells, header_after, seal_stays}
use Rattle.collector.specs.Collections.{copied_kind, copy_of, nth}
use Rattle.collector.specs.Inside.{IsCopied, Taking}
use Rattle.collector.proofs.BlankPages.{blank_gate, blank_slot}
use Rattle.collector.proofs.Passing.{length_push, nth_front, nth_last}
use Rattle.collector.proofs.Says.{cells_stay}
use Rattle.collector.proofs.PutCopies.{placed_there, copy_keeps_live}
use Rattle.collector.proofs.States.{page_in_block}

-- a copy on a page that stays is as it was
pub copied_stays : (g : Geometry) (d : Decoding) (start old new : List (List ℕ)) (spare seq : ℕ) (x : Placed) (i : ℕ) → page_at new (spare * g.pages + i) ≡ page_at old (spare * g.pages + i)
    → IsCopied g d start old spare seq x i → IsCopied g d start new spare seq x i
unfolding record_in
copied_stays g d start old new spare seq x i same c = record {
  there = ap (λ (bytes : List ℕ). if may_hold g place then below_sectors g (header_at (drop g.main_bytes bytes) 0) else None) same ∙ c.there;
  gated = ap (λ (bytes : List ℕ). is_gate_charged (drop g.main_bytes bytes) 0) same ∙ c.gated;
  says = ap (λ (bytes : List ℕ). if says_zeros (copy_of g spare seq x i).header then zero_sector g else d.first (take g.main_bytes bytes)) same ∙ c.says;
  cells = cells_stay g d old new (spare * g.pages + i) x.header (said_by g d start (Some x)) (ap (take g.main_bytes) same) c.cells;
  further = λ slot one within. ap (λ (bytes : List ℕ). is_slot_blank (drop g.main_bytes bytes) slot) same ∙ c.further slot one within;
}
  where
    place : Place
    place = (copy_of g spare seq x i).place

-- kinds 2 and 4 are those of copies
pub is_copied_kind : (sector seq : ℕ) (h : Header) → is_copy (record { sector = sector; seq = seq; kind = copied_kind h }) ≡ true
is_copied_kind sector seq h = at (says_zeros h)
  where
    at : (t : Bool) → ((if t then 4 else 2) == 2 || (if t then 4 else 2) == 4) ≡ true
    at true = refl
    at false = refl

-- further slots stay blank beside a record in slot 0
record_keeps_blank : (spare : List ℕ) (h : Header) (slot : ℕ) → 16 ≤ length spare → 1 ≤ slot → is_slot_blank (with_record spare 0 h) slot ≡ is_slot_blank spare slot
record_keeps_blank spare h slot room one =
    let apart : slot ≢ 0 = λ e. omega (arith, e, one) in
    gate_keeps_blank 0 (with_header spare 0 h) 0 slot apart ∙ header_keeps_blank spare 0 h slot (omega (arith, room)) apart

-- A put of the next copy, on its page of the spare.
pub record PutsCopy (g : Geometry) (d : Decoding) (spare seq : ℕ) (start old new : List (List ℕ)) (records : List Placed) (x : Placed) : Type 0 where
  pub taking : Taking g d spare seq start old records
  pub put : PutsCells g (copy_of g spare seq x (length records)).place (copy_of g spare seq x (length records)).header old new
  pub only : (page : ℕ) → page ≢ spare * g.pages + length records → page_at new page ≡ page_at old page
  pub header : IsHeader (copy_of g spare seq x (length records)).header
  pub sector : x.header.sector < g.sectors
  pub room : length records < g.pages
  pub there : spare < g.blocks
  pub one : 1 ≤ g.generations

module _ (g : Geometry) (d : Decoding) (spare seq : ℕ) (start old new : List (List ℕ)) (records : List Placed) (x : Placed) (p : PutsCopy g d spare seq start old new records x) where
  blank_before : is_blank (page_at old (spare * g.pages + length records)) ≡ true
  blank_before = p.taking.blank (length records) (omega arith) p.room

  in_spare : (i : ℕ) → i < g.pages → block_of g (spare * g.pages + i) ≡ spare
  in_spare i h = page_in_block g spare i h

  copy_page : spare * g.pages + length records < page_count g
  copy_page = let more : spare + 1 ≤ g.blocks = omega (arith, p.there) in omega (arith, p.room, mul-le-mul_right g.pages more, suc-mul spare g.pages)

  pub holds_copy : HoldsRecord g (copy_of g spare seq x (length records)).place (copy_of g spare seq x (length records)).header
  holds_copy = record { slots = p.one; may = and_from _ _ (lt-ltb _ _ copy_page) refl; sector = p.sector; header = p.header }

  -- no live record changes, also where the put is torn
  pub copy_leaves_live : (sector : ℕ) → live_record g new sector ≡ live_record g start sector
  copy_leaves_live sector =
      copy_keeps_live g (copy_of g spare seq x (length records)).place (copy_of g spare seq x (length records)).header old new p.put holds_copy
      (is_copied_kind x.header.sector (seq + length records) x.header)
      (blank_gate g old (spare * g.pages + length records) blank_before 0)
      (ap (is_sealed g old) (in_spare (length records) p.room) ∙ p.taking.unsealed) sector
      ∙ p.taking.live sector

  pub copy_leaves_others : (page : ℕ) → block_of g page ≢ spare → page_at new page ≡ page_at start page
  copy_leaves_others page apart = p.only page (λ e. apart (ap (block_of g) e ∙ in_spare (length records) p.room)) ∙ p.taking.others page apart

  -- Behind its gate the copy is one more.
  pub one_copy_more : is_gate_charged (spare_at g new (spare * g.pages + length records)) 0 ≡ true → said_by g d new (Some (copy_of g spare seq x (length records))) ≡ said_by g d start (Some x)
      → InCells g d new (spare * g.pages + length records) x.header (said_by g d start (Some x)) → Taking g d spare seq start new (records ++ x ∷ [])
  one_copy_more charged says cells = record {
    others = copy_leaves_others;
    unsealed = seal_stays g (copy_of g spare seq x (length records)).place (copy_of g spare seq x (length records)).header old new p.put (spare * g.pages) ∙ p.taking.unsealed;
    headers = λ place h here e. elim (header_after g (copy_of g spare seq x (length records)).place (copy_of g spare seq x (length records)).header old new p.put p.header place h e) [
      | inl stood ↦ (let was = p.taking.headers place h here stood in (
        was.0,
        omega (arith, was.1, length_push records x),
        was.2,
        was.3 ∙ ap (λ (z : Placed). (copy_of g spare seq z was.0).header) (sym (nth_front records x was.0 was.1)),
      ))
      | inr own ↦ (
        length records,
        omega (arith, length_push records x),
        own.0,
        own.1 ∙ ap (λ (z : Placed). (copy_of g spare seq z (length records)).header) (sym (nth_last records x (length records) refl)),
      )
    ];
    copied = λ i h. elim (cases_lt i (length records)) [
      | inl was ↦ subst (λ (z : Placed). IsCopied g d start new spare seq z i) (sym (nth_front records x i was))
          (copied_stays g d start old new spare seq (nth records i) i (p.only (spare * g.pages + i) (λ e. omega (arith, e, was))) (p.taking.copied i was))
      | inr past ↦ (let last : i ≡ length records = omega (arith, h, past, length_push records x) in
          subst (λ (z : Placed). IsCopied g d start new spare seq z i) (sym (nth_last records x i last))
          (subst (λ (j : ℕ). IsCopied g d start new spare seq x j) (sym last) own_copy))
    ];
    blank = λ i from within. ap is_blank (p.only (spare * g.pages + i) (λ e. omega (arith, e, from, length_push records x))) ∙ p.taking.blank i (omega (arith, from, length_push records x)) within;
    live = copy_leaves_live;
  }
    where
      own_copy : IsCopied g d start new spare seq x (length records)
      own_copy = record {
        there = placed_there g (copy_of g spare seq x (length records)).place (copy_of g spare seq x (length records)).header old new p.put holds_copy charged;
        gated = charged;
        says = says;
        cells = cells;
        further = λ slot one within.
            ap (λ (bytes : List ℕ). is_slot_blank (drop g.main_bytes bytes) slot) (p.put.whole charged (spare * g.pages + length records))
            ∙ (ap (λ (spare_bytes : List ℕ). is_slot_blank spare_bytes slot) p.put.record_there
            ∙ (record_keeps_blank (spare_at g old (spare * g.pages + length records)) (copy_of g spare seq x (length records)).header slot (omega (arith, p.put.room)) one
            ∙ blank_slot g old (spare * g.pages + length records) blank_before slot));
      }
