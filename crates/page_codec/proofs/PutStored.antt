-- What a put does to the stored sectors.
use Rattle.std.proofs.Common.{◌≡◌, ◌≢◌, inl, inr, ℕ, zero, suc, ◌+◌, ◌<◌, Bool, true, false, List, ◌++◌, take, map, ◌==◌, if◌then◌else◌, Option, Some, None, refl, sym, ap, ap₂, ◌∙◌, arith, subst}
use Rattle.std.specs.List.{flat_map, range_with_len}
use Rattle.std.proofs.lemmas.Bool.{cases_Bool}
use Rattle.zero_count.specs.declared.Header.{Header}
use Rattle.cell_die.specs.Cells.{page_at}
use Rattle.striped.specs.Meaning.{Decoding}
use Rattle.spare_gate.specs.Slots.{is_gate_charged}
use Rattle.page_codec.specs.declared.place.Place.{Place}
use Rattle.page_codec.specs.Geometry.{Geometry, spare_at, main_at, unit_at}
use Rattle.page_codec.specs.Records.{Placed, is_copy, committed_in, live_record}
use Rattle.page_codec.specs.Sectors.{said_by, says_zeros, zero_sector, stored}
use Rattle.page_codec.specs.Gate.{GateWins}
use Rattle.page_codec.specs.Promises.{HoldsRecord}
use Rattle.page_codec.proofs.PutLaws.{PutsCells, put_keeps_live, put_wins}

-- the pages that a live record is read from
abbrev pub pages_read : Geometry → Placed → ℕ
pages_read g placed = if placed.place.slot == 0 then 1 else g.span

-- none of the pages of a put is read for a live record
abbrev pub NoneReads : Geometry → List (List ℕ) → List (List ℕ) → Type 0
NoneReads g old new = (sector : ℕ) (x : Placed) → live_record g old sector ≡ Some x → (i : ℕ) → i < pages_read g x → page_at new (x.place.page + i) ≡ page_at old (x.place.page + i)

unit_same : (g : Geometry) (old new : List (List ℕ)) (a n : ℕ) → ((i : ℕ) → i < n → page_at new (a + i) ≡ page_at old (a + i))
    → flat_map (main_at g new) (range_with_len a n) ≡ flat_map (main_at g old) (range_with_len a n)
unit_same g old new a zero f = refl
unit_same g old new a (suc n) f = ap₂ (λ (front rest : List ℕ). front ++ rest)
    (ap (take g.main_bytes) (subst (λ (q : ℕ). page_at new q ≡ page_at old q) (omega arith) (f 0 (omega arith))))
    (unit_same g old new (a + 1) n (λ i h. subst (λ (q : ℕ). page_at new q ≡ page_at old q) (omega arith) (f (suc i) (omega arith))))

said_same : (g : Geometry) (d : Decoding) (old new : List (List ℕ)) (x : Placed) → ((i : ℕ) → i < pages_read g x → page_at new (x.place.page + i) ≡ page_at old (x.place.page + i))
    → said_by g d new (Some x) ≡ said_by g d old (Some x)
said_same g d old new x f = elim (cases_Bool (x.place.slot == 0)) [
  | inl first ↦ ap (said new) first ∙ (ap (λ (main : List ℕ). if says_zeros x.header then zero_sector g else d.first main) (main_same first) ∙ sym (ap (said old) first))
  | inr later ↦ ap (said new) later ∙ (ap (λ (unit : List ℕ). if says_zeros x.header then zero_sector g else d.second unit) (later_same later) ∙ sym (ap (said old) later))
]
  where
    said : List (List ℕ) → Bool → List ℕ
    said cells t = if says_zeros x.header then zero_sector g else (if t then d.first (main_at g cells x.place.page) else d.second (unit_at g cells x.place.page))

    main_same : (x.place.slot == 0) ≡ true → main_at g new x.place.page ≡ main_at g old x.place.page
    main_same first = ap (take g.main_bytes) (subst (λ (q : ℕ). page_at new q ≡ page_at old q) (omega arith)
        (f 0 (subst (λ (t : Bool). 0 < (if t then 1 else g.span)) (sym first) (omega arith))))

    later_same : (x.place.slot == 0) ≡ false → unit_at g new x.place.page ≡ unit_at g old x.place.page
    later_same later = unit_same g old new x.place.page g.span (λ i h. f i (subst (λ (t : Bool). i < (if t then 1 else g.span)) (sym later) h))

said_option : (g : Geometry) (d : Decoding) (old new : List (List ℕ)) (o : Option Placed)
    → ((x : Placed) → o ≡ Some x → (i : ℕ) → i < pages_read g x → page_at new (x.place.page + i) ≡ page_at old (x.place.page + i)) → said_by g d new o ≡ said_by g d old o
said_option g d old new None f = refl
said_option g d old new (Some x) f = said_same g d old new x (f x refl)

-- a sector whose live record stays, and is read from pages that stay, stays
pub said_stays : (g : Geometry) (d : Decoding) (old new : List (List ℕ)) (sector : ℕ) → NoneReads g old new → live_record g new sector ≡ live_record g old sector
    → said_by g d new (live_record g new sector) ≡ said_by g d old (live_record g old sector)
said_stays g d old new sector none same = ap (said_by g d new) same ∙ said_option g d old new (live_record g old sector) (none sector)

-- Where the gate is not charged, every stored sector stays.
pub put_keeps_stored : (g : Geometry) (d : Decoding) (place : Place) (h : Header) (old new : List (List ℕ)) → PutsCells g place h old new
    → is_gate_charged (spare_at g old place.page) place.slot ≡ false → is_gate_charged (spare_at g new place.page) place.slot ≡ false → NoneReads g old new
    → stored g d new ≡ stored g d old
unfolding stored
put_keeps_stored g d place h old new p before after none =
    λ i. map (λ sector. said_stays g d old new sector none (put_keeps_live g place h old new p before after sector) i) (range_with_len 0 g.sectors)

-- the stored sectors after the gate: the record's own is what it says, and the others stay
pub record StoresOne (g : Geometry) (d : Decoding) (place : Place) (h : Header) (old new : List (List ℕ)) : Type 0 where
  pub own : said_by g d new (live_record g new h.sector) ≡ said_by g d new (Some (record { place = place; header = h }))
  pub others : (sector : ℕ) → sector ≢ h.sector → said_by g d new (live_record g new sector) ≡ said_by g d old (live_record g old sector)

pub put_stores : (g : Geometry) (d : Decoding) (place : Place) (h : Header) (old new : List (List ℕ)) → PutsCells g place h old new → HoldsRecord g place h → is_copy h ≡ false
    → is_gate_charged (spare_at g old place.page) place.slot ≡ false → is_gate_charged (spare_at g new place.page) place.slot ≡ true
    → ((other : Place) (k : Header) → committed_in g old other ≡ Some k → k.seq < h.seq) → NoneReads g old new
    → StoresOne g d place h old new
put_stores g d place h old new p f single before charged newest none =
    let wins : GateWins g old new place h = put_wins g place h old new p f single before charged newest in
    record {
      own = ap (said_by g d new) wins.live;
      others = λ sector apart. said_stays g d old new sector none (wins.others sector apart);
    }
