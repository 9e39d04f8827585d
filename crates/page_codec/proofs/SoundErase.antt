-- A torn erase of a block without a live record leaves sound cells that stand for the same sectors.
use Rattle.std.proofs.Common.{◌≡◌, ◌≢◌, inl, inr, ℕ, zero, suc, ◌+◌, ◌*◌, ◌/◌, ◌%◌, ◌<◌, ◌≤◌, Bool, true, false, List, ◌++◌, map, take, drop, ◌==◌, if◌then◌else◌, Option, Some, None, refl, sym}
use Rattle.std.proofs.Common.{ap, ap₂, ◌∙◌, arith, subst}
use Rattle.std.specs.List.{count_by, flat_map, range_with_len}
use Rattle.std.proofs.lemmas.Bool.{cases_eq, and_parts, or_cases, eqb-true, ltb-true, false≢true, eq-eqb}
use Rattle.std.proofs.lemmas.Nat.{div-mul-add, div-add-mod'}
use native.Mathlib.Nat.{mul-le-mul_right, suc-mul}
use Rattle.zero_count.specs.declared.Header.{Header}
use Rattle.zero_count.specs.HeaderWord.{header_of}
use Rattle.cell_die.specs.Cells.{page_at, IsAbove}
use Rattle.page_codec.specs.Geometry.{HasShape}
use Rattle.cell_bits.proofs.Above.{above_trans}
use Rattle.cell_bits.proofs.Slices.{above_drop, above_take, bytes_drop, bytes_take}
use Rattle.spare_gate.specs.Slots.{word_at}
use Rattle.spare_gate.proofs.Fallen.{fallen_valid}
use Rattle.striped.specs.Meaning.{Decoding}
use Rattle.page_codec.specs.declared.place.Place.{Place}
use Rattle.page_codec.specs.Geometry.{Geometry, shape_of, block_of, is_unit_page, main_at, spare_at, unit_at}
use Rattle.page_codec.specs.Records.{Placed, may_hold, header_in, committed_in, live_record}
use Rattle.page_codec.specs.Sectors.{says_zeros, zero_sector, said_by, stored}
use Rattle.page_codec.specs.Sound.{IsSound, live_count, stands_in}
use Rattle.page_codec.proofs.Within.{header_valid, header_within}
use Rattle.page_codec.proofs.Live.{committed_holds, live_counts}
use Rattle.page_codec.proofs.Erase.{FallsIn, fall_keeps}

-- a torn erase of a block, from sound cells, where no sector's live record stands in it
pub record TearsBlock (g : Geometry) (old new : List (List ℕ)) (block : ℕ) : Type 0 where
  pub pages : 0 < g.pages
  pub slots : 1 ≤ g.generations
  pub shape : HasShape (shape_of g) new
  pub old_shape : HasShape (shape_of g) old
  pub sound : IsSound g old
  pub others : (page : ℕ) → block_of g page ≢ block → page_at new page ≡ page_at old page
  pub fell : (page : ℕ) → block_of g page ≡ block → IsAbove (page_at old page) (page_at new page)
  pub free : (sector : ℕ) (x : Placed) → live_record g old sector ≡ Some x → block_of g x.place.page ≢ block

pub falls : (g : Geometry) (old new : List (List ℕ)) (block : ℕ) → TearsBlock g old new block → FallsIn g old new block
falls g old new block t = record { others = t.others; fell = t.fell; old_bytes = t.old_shape.small; new_bytes = t.shape.small; below_valid = t.sound.below_valid }

pub tear_keeps_live : (g : Geometry) (old new : List (List ℕ)) (block : ℕ) → TearsBlock g old new block → (sector : ℕ) → live_record g new sector ≡ live_record g old sector
tear_keeps_live g old new block t sector = fall_keeps g old new block (falls g old new block t) t.pages t.slots sector (t.free sector)

word_fell : (g : Geometry) (old new : List (List ℕ)) (block : ℕ) → TearsBlock g old new block → (page slot : ℕ) → block_of g page ≡ block
    → IsAbove (word_at (spare_at g old page) slot) (word_at (spare_at g new page) slot)
word_fell g old new block t page slot e = above_take _ _ _ (above_drop (16 * slot + 1) _ _ (above_drop g.main_bytes _ _ (t.fell page e)))

-- a valid header after the tear stood there before it
pub header_kept : (g : Geometry) (old new : List (List ℕ)) (block : ℕ) → TearsBlock g old new block → (place : Place) (h : Header) → header_in g new place ≡ Some h → header_in g old place ≡ Some h
header_kept g old new block t place h e = elim (cases_eq (block_of g place.page) block) [
  | inr apart ↦ ap (λ (bytes : List ℕ). header_of (word_at (drop g.main_bytes bytes) place.slot)) (sym (t.others place.page apart)) ∙ e
  | inl here ↦ (
      let w = header_within g new place h t.shape e in
      let s = t.sound.below_valid place.page place.slot w.0 w.1 in
      ap header_of (sym (fallen_valid s.0 _ _ s.1 s.2 (word_fell g old new block t place.page place.slot here)
      (bytes_take _ _ (bytes_drop (16 * place.slot + 1) _ (bytes_drop g.main_bytes _ (t.old_shape.small place.page))))
      (bytes_take _ _ (bytes_drop (16 * place.slot + 1) _ (bytes_drop g.main_bytes _ (t.shape.small place.page)))) (header_valid _ h e))) ∙ e)
]

pub live_count_same : (g : Geometry) (old new : List (List ℕ)) → ((sector : ℕ) → live_record g new sector ≡ live_record g old sector) → (block : ℕ) → live_count g new block ≡ live_count g old block
unfolding live_count
live_count_same g old new h block = λ i. count_by (λ sector. stands_in g block (h sector i)) (range_with_len 0 g.sectors)

-- the cells are still sound
pub tear_keeps_sound : (g : Geometry) (old new : List (List ℕ)) (block : ℕ) → TearsBlock g old new block → IsSound g new
tear_keeps_sound g old new block t = record {
  below_valid = λ page slot p q.
      let s = t.sound.below_valid page slot p q in (
        s.0,
        s.1,
        elim (cases_eq (block_of g page) block) [
          | inl here ↦ above_trans s.0 _ _ s.2 (word_fell g old new block t page slot here)
          | inr apart ↦ subst (λ (bytes : List ℕ). IsAbove s.0 (word_at (drop g.main_bytes bytes) slot)) (sym (t.others page apart)) s.2
        ],
      );
  seqs_differ = λ a b h k e f. t.sound.seqs_differ a b h k (header_kept g old new block t a h e) (header_kept g old new block t b k f);
  one_free = (t.sound.one_free.0, t.sound.one_free.1, live_count_same g old new (tear_keeps_live g old new block t) t.sound.one_free.0 ∙ t.sound.one_free.2);
  small_seqs = λ place h e. t.sound.small_seqs place h (header_kept g old new block t place h e);
}

-- ---- the sectors

-- the pages of a unit stand in one block
pub unit_in_block : (g : Geometry) (page k : ℕ) → 0 < g.pages → 0 < g.span → is_unit_page g page ≡ true → k < g.span → block_of g (page + k) ≡ block_of g page
unit_in_block g page k some spans h l =
    let p = and_parts _ _ h in
    let even : page % g.pages % g.span ≡ 0 = eqb-true _ _ p.0 in
    let below : page % g.pages / g.span < g.pages / g.span = ltb-true _ _ p.1 in
    ap (λ (n : ℕ). n / g.pages) (whole page k g.pages) ∙ div-mul-add (page / g.pages) g.pages (page % g.pages + k) (room (page % g.pages) g.pages g.span k spans even below l)
  where
    whole : (n k w : ℕ) → n + k ≡ n / w * w + (n % w + k)
    whole n k w = omega (arith, div-add-mod' n w)

    room : (r w s k : ℕ) → 0 < s → r % s ≡ 0 → r / s < w / s → k < s → r + k < w
    room r w s k spans even below l = omega (arith, div-add-mod' r s, div-add-mod' w s, mul-le-mul_right s below, suc-mul (r / s) s)

flat_map_same : (f h : ℕ → List ℕ) (a n : ℕ) → ((k : ℕ) → k < n → f (a + k) ≡ h (a + k)) → flat_map f (range_with_len a n) ≡ flat_map h (range_with_len a n)
flat_map_same f h a zero e = refl
flat_map_same f h a (suc n) e =
    ap₂ (λ (x y : List ℕ). x ++ y) (subst (λ (z : ℕ). f z ≡ h z) (omega arith) (e 0 (omega arith)))
    (flat_map_same f h (a + 1) n (λ k l. subst (λ (z : ℕ). f z ≡ h z) (omega arith) (e (suc k) (omega arith))))

pub unit_page_from_slot : (g : Geometry) (place : Place) → may_hold g place ≡ true → place.slot ≢ 0 → is_unit_page g place.page ≡ true
unit_page_from_slot g place h n = elim (or_cases _ _ (and_parts _ _ h).1) [
  | inl zero_slot ↦ absurd (n (eqb-true place.slot 0 zero_slot))
  | inr more ↦ (and_parts _ _ more).1
]

-- a record outside the block says what it said
said_same : (g : Geometry) (d : Decoding) (old new : List (List ℕ)) (block : ℕ) → TearsBlock g old new block → 0 < g.span → (x : Placed) → committed_in g old x.place ≡ Some x.header
    → block_of g x.place.page ≢ block
    → said_by g d new (Some x) ≡ said_by g d old (Some x)
said_same g d old new block t spans x counted apart = at (x.place.slot == 0) refl
  where
    pages_same : (k : ℕ) → block_of g (x.place.page + k) ≡ block_of g x.place.page → main_at g new (x.place.page + k) ≡ main_at g old (x.place.page + k)
    pages_same k e = ap (take g.main_bytes) (t.others (x.place.page + k) (λ here. apart (sym e ∙ here)))

    at : (s : Bool) → (x.place.slot == 0) ≡ s
        → (if says_zeros x.header then zero_sector g else (if s then d.first (main_at g new x.place.page) else d.second (unit_at g new x.place.page)))
        ≡ (if says_zeros x.header then zero_sector g else (if s then d.first (main_at g old x.place.page) else d.second (unit_at g old x.place.page)))
    at true e = ap (λ (bytes : List ℕ). if says_zeros x.header then zero_sector g else d.first (take g.main_bytes bytes)) (t.others x.place.page apart)
    at false e = ap (λ (bytes : List ℕ). if says_zeros x.header then zero_sector g else d.second bytes)
        (flat_map_same (main_at g new) (main_at g old) x.place.page g.span (λ k l. pages_same k
        (unit_in_block g x.place.page k t.pages spans (unit_page_from_slot g x.place (committed_holds g old x.place x.header counted) (λ same. false≢true (sym e ∙ eq-eqb x.place.slot 0 same))) l)))

-- the cells stand for the same sectors
pub tear_keeps_stored : (g : Geometry) (d : Decoding) (old new : List (List ℕ)) (block : ℕ) → TearsBlock g old new block → 0 < g.span → stored g d new ≡ stored g d old
unfolding stored
tear_keeps_stored g d old new block t spans = λ i. map (λ sector. each sector i) (range_with_len 0 g.sectors)
  where
    said : (sector : ℕ) (o : Option Placed) → live_record g old sector ≡ o → said_by g d new o ≡ said_by g d old o
    said sector None e = refl
    said sector (Some x) e = said_same g d old new block t spans x (live_counts g old sector x e) (t.free sector x e)

    each : (sector : ℕ) → said_by g d new (live_record g new sector) ≡ said_by g d old (live_record g old sector)
    each sector = ap (said_by g d new) (tear_keeps_live g old new block t sector) ∙ said sector (live_record g old sector) refl
