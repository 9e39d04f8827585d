-- Where only one block changes, what the records of the others say stays.
use Rattle.std.proofs.Common.{◌≡◌, ◌≢◌, inl, inr, ℕ, zero, suc, ◌+◌, ◌*◌, ◌/◌, ◌%◌, ◌<◌, ◌≤◌, Bool, true, false, List, ◌++◌, map, take, drop, ◌==◌, if◌then◌else◌, Option, Some, None, refl, sym}
use Rattle.std.proofs.Common.{ap, ap₂, ◌∙◌, arith, subst}
use Rattle.std.specs.List.{flat_map, range_with_len}
use Rattle.std.proofs.lemmas.Bool.{and_parts, or_cases, eqb-true, ltb-true, false≢true, eq-eqb}
use Rattle.std.proofs.lemmas.Nat.{div-mul-add, div-add-mod'}
use native.Mathlib.Nat.{mul-le-mul_right, suc-mul}
use Rattle.cell_die.specs.Cells.{page_at}
use Rattle.striped.specs.Meaning.{Decoding}
use Rattle.spare_gate.specs.Slots.{is_gate_charged, is_seal_charged, word_at}
use Rattle.page_codec.specs.declared.place.Place.{Place}
use Rattle.page_codec.specs.Geometry.{Geometry, block_of, is_unit_page, main_at, unit_at}
use Rattle.page_codec.specs.Records.{Placed, may_hold, committed_in, live_record}
use Rattle.page_codec.specs.Sectors.{says_zeros, zero_sector, said_by, stored}
use Rattle.page_codec.proofs.Changes.{committed_stays}
use Rattle.collector.proofs.Committed.{live_so}
use Rattle.collector.proofs.States.{page_in_block, span_of_units}

-- only the pages of this block changed
abbrev pub OnlyIn : Geometry → List (List ℕ) → List (List ℕ) → ℕ → Type 0
OnlyIn g old new block = (page : ℕ) → block_of g page ≢ block → page_at new page ≡ page_at old page

-- the pages of a unit stand in one block
pub span_of_unit : (g : Geometry) (page : ℕ) → is_unit_page g page ≡ true → 1 ≤ g.span
span_of_unit g page h = span_of_units g (page % g.pages / g.span) (ltb-true _ _ (and_parts _ _ h).1)

pub unit_stays : (g : Geometry) (page k : ℕ) → is_unit_page g page ≡ true → k < g.span → block_of g (page + k) ≡ block_of g page
unit_stays g page k h l =
    let spans : 1 ≤ g.span = span_of_unit g page h in
    let p = and_parts _ _ h in
    let even : page % g.pages % g.span ≡ 0 = eqb-true _ _ p.0 in
    let below : page % g.pages / g.span < g.pages / g.span = ltb-true _ _ p.1 in
    ap (λ (n : ℕ). n / g.pages) (whole page k g.pages) ∙ div-mul-add (page / g.pages) g.pages (page % g.pages + k) (room (page % g.pages) g.pages g.span k spans even below l)
  where
    whole : (n k w : ℕ) → n + k ≡ n / w * w + (n % w + k)
    whole n k w = omega (arith, div-add-mod' n w)

    room : (r w s k : ℕ) → 1 ≤ s → r % s ≡ 0 → r / s < w / s → k < s → r + k < w
    room r w s k spans even below l = omega (arith, div-add-mod' r s, div-add-mod' w s, mul-le-mul_right s below, suc-mul (r / s) s)

flat_map_same : (f h : ℕ → List ℕ) (a n : ℕ) → ((k : ℕ) → k < n → f (a + k) ≡ h (a + k)) → flat_map f (range_with_len a n) ≡ flat_map h (range_with_len a n)
flat_map_same f h a zero e = refl
flat_map_same f h a (suc n) e =
    ap₂ (λ (x y : List ℕ). x ++ y) (subst (λ (z : ℕ). f z ≡ h z) (omega arith) (e 0 (omega arith)))
    (flat_map_same f h (a + 1) n (λ k l. subst (λ (z : ℕ). f z ≡ h z) (omega arith) (e (suc k) (omega arith))))

-- a further slot that holds a record is that of a unit's first page
pub unit_page_from_slot : (g : Geometry) (place : Place) → may_hold g place ≡ true → place.slot ≢ 0 → is_unit_page g place.page ≡ true
unit_page_from_slot g place h n = elim (or_cases _ _ (and_parts _ _ h).1) [
  | inl zero_slot ↦ absurd (n (eqb-true place.slot 0 zero_slot))
  | inr more ↦ (and_parts _ _ more).1
]

-- a record in another block says what it said
pub said_stays : (g : Geometry) (d : Decoding) (old new : List (List ℕ)) (block : ℕ) → OnlyIn g old new block → (x : Placed) → may_hold g x.place ≡ true → block_of g x.place.page ≢ block
    → said_by g d new (Some x) ≡ said_by g d old (Some x)
said_stays g d old new block others x holds apart = at (x.place.slot == 0) refl
  where
    pages_same : (k : ℕ) → block_of g (x.place.page + k) ≡ block_of g x.place.page → main_at g new (x.place.page + k) ≡ main_at g old (x.place.page + k)
    pages_same k e = ap (take g.main_bytes) (others (x.place.page + k) (λ here. apart (sym e ∙ here)))

    at : (s : Bool) → (x.place.slot == 0) ≡ s
        → (if says_zeros x.header then zero_sector g else (if s then d.first (main_at g new x.place.page) else d.second (unit_at g new x.place.page)))
        ≡ (if says_zeros x.header then zero_sector g else (if s then d.first (main_at g old x.place.page) else d.second (unit_at g old x.place.page)))
    at true e = ap (λ (bytes : List ℕ). if says_zeros x.header then zero_sector g else d.first (take g.main_bytes bytes)) (others x.place.page apart)
    at false e = ap (λ (bytes : List ℕ). if says_zeros x.header then zero_sector g else d.second bytes)
        (flat_map_same (main_at g new) (main_at g old) x.place.page g.span (λ k l. pages_same k
        (unit_stays g x.place.page k (unit_page_from_slot g x.place holds (λ same. false≢true (sym e ∙ eq-eqb x.place.slot 0 same))) l)))

-- Where all live records stay, and none stands in the block, every stored sector stays.
pub rows_stay : (g : Geometry) (d : Decoding) (old new : List (List ℕ)) (block : ℕ) → OnlyIn g old new block
    → ((sector : ℕ) → live_record g new sector ≡ live_record g old sector)
    → ((sector : ℕ) (x : Placed) → live_record g old sector ≡ Some x → block_of g x.place.page ≢ block)
    → stored g d new ≡ stored g d old
unfolding stored
rows_stay g d old new block others same free = λ i. map (λ sector. each sector i) (range_with_len 0 g.sectors)
  where
    said : (sector : ℕ) (o : Option Placed) → live_record g old sector ≡ o → said_by g d new o ≡ said_by g d old o
    said sector None e = refl
    said sector (Some x) e = said_stays g d old new block others x (live_so g old sector x e).so.holds (free sector x e)

    each : (sector : ℕ) → said_by g d new (live_record g new sector) ≡ said_by g d old (live_record g old sector)
    each sector = ap (said_by g d new) (same sector) ∙ said sector (live_record g old sector) refl

-- what is committed in another block stays
pub committed_elsewhere : (g : Geometry) (old new : List (List ℕ)) (block : ℕ) → 0 < g.pages → OnlyIn g old new block → (place : Place) → block_of g place.page ≢ block
    → committed_in g new place ≡ committed_in g old place
committed_elsewhere g old new block some others place apart =
    committed_stays g old new place
    (record {
      gate = ap (λ (bytes : List ℕ). is_gate_charged (drop g.main_bytes bytes) place.slot) (others place.page apart);
      word = ap (λ (bytes : List ℕ). word_at (drop g.main_bytes bytes) place.slot) (others place.page apart);
    })
    (ap (λ (bytes : List ℕ). is_seal_charged (drop g.main_bytes bytes)) (others (block_of g place.page * g.pages) (λ here. apart (sym (first (block_of g place.page)) ∙ here))))
  where
    first : (b : ℕ) → block_of g (b * g.pages) ≡ b
    first b = ap (λ (n : ℕ). n / g.pages) (sum b g.pages) ∙ page_in_block g b 0 some
      where
        sum : (a c : ℕ) → a * c ≡ a * c + 0
        sum a c = omega arith
