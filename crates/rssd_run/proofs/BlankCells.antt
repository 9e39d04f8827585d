-- A die with no charged cell: no header stands there. So its cells are sound, no block has a live record, and all sectors are zeros.
use Rattle.std.proofs.Common.{◌≡◌, inl, inr, ℕ, zero, suc, ◌+◌, ◌-◌, ◌*◌, ◌<◌, ◌≤◌, Bool, true, false, List, [], ◌∷◌, map, take, drop, length, replicate, get_or, Option, Some, None}
use Rattle.std.proofs.Common.{if◌then◌else◌, refl, sym, ap, ap₂, ◌∙◌, arith, subst}
use Rattle.std.specs.List.{count_by, filter_map, range_with_len, cons_option}
use Rattle.std.proofs.lemmas.Bool.{cases_lt}
use Rattle.std.proofs.lemmas.List.{get_or_past, take-replicate, drop-replicate}
use Rattle.std.proofs.lemmas.List.FromFn.{length-range_with_len}
use Rattle.zero_count.specs.declared.Header.{Header}
use Rattle.zero_count.specs.HeaderWord.{IsHeader, header_of, spelling, is_valid}
use Rattle.zero_count.proofs.ValidWords.{valid_parts}
use Rattle.zero_count.proofs.Spelled.{spelled_valid}
use Rattle.cell_die.specs.Cells.{page_at, blank_page, IsAbove}
use Rattle.cell_die.proofs.CellLaws.{above_blank}
use Rattle.spare_gate.specs.Slots.{word_at}
use Rattle.striped.specs.Meaning.{Decoding}
use Rattle.page_codec.specs.declared.place.Place.{Place}
use Rattle.page_codec.specs.Geometry.{Geometry, page_count, spare_at}
use Rattle.page_codec.specs.Records.{may_hold, below_sectors, header_in, record_in, if_committed, committed_in, of_sector, places, records_of, newest, live_record}
use Rattle.page_codec.specs.Sectors.{said_by, stored, zero_sector}
use Rattle.page_codec.specs.Sound.{IsSound, live_count, stands_in}
use Rattle.page_codec.proofs.Within.{header_valid}

-- each page is blank
pub record IsBlank (g : Geometry) (cells : List (List ℕ)) : Type 0 where
  pub pages : length cells ≡ page_count g
  pub blank : (page : ℕ) → page < page_count g → page_at cells page ≡ blank_page (g.main_bytes + 16 * g.generations)

-- ---- no header stands in zeros

abbrev zeros : ℕ → List ℕ
zeros n = replicate n 0

zero_at : (n i : ℕ) → get_or (zeros n) i 0 ≡ 0
zero_at zero i = refl
zero_at (suc n) zero = refl
zero_at (suc n) (suc i) = zero_at n i

front_of_zeros : (k n : ℕ) → (j : ℕ) × (take k (zeros n) ≡ zeros j)
front_of_zeros zero n = (0, refl)
front_of_zeros (suc k) zero = (0, refl)
front_of_zeros (suc k) (suc n) = let r = front_of_zeros k n in (suc r.0, ap (λ (xs : List ℕ). 0 ∷ xs) r.1)

no_header_in_zeros : (n : ℕ) (h : Header) → header_of (zeros n) ≡ Some h → ⊥
no_header_in_zeros n h e = let kind = (valid_parts (zeros n) (header_valid (zeros n) h e)).least_kind in omega (arith, kind, zero_at n 12)

-- the word of a slot of a page of zeros
zero_word : (m n slot : ℕ) → (j : ℕ) × (word_at (drop m (zeros n)) slot ≡ zeros j)
zero_word m n slot =
    let front = front_of_zeros (16 * slot + 15 - (16 * slot + 1)) (n - m - (16 * slot + 1)) in (
      front.0,
      ap (λ (xs : List ℕ). take (16 * slot + 15 - (16 * slot + 1)) (drop (16 * slot + 1) xs)) (drop-replicate m n 0)
          ∙ (ap (take (16 * slot + 15 - (16 * slot + 1))) (drop-replicate (16 * slot + 1) (n - m) 0) ∙ front.1),
    )

zero_page : (g : Geometry) (cells : List (List ℕ)) → IsBlank g cells → (page : ℕ) → (n : ℕ) × (page_at cells page ≡ zeros n)
zero_page g cells b page = elim (cases_lt page (page_count g)) [
  | inl within ↦ (g.main_bytes + 16 * g.generations, b.blank page within)
  | inr past ↦ (0, get_or_past cells page [] (subst (λ (n : ℕ). n ≤ page) (sym b.pages) past))
]

pub no_header_at : (g : Geometry) (cells : List (List ℕ)) → IsBlank g cells → (place : Place) (h : Header) → header_in g cells place ≡ Some h → ⊥
no_header_at g cells b place h e =
    let page = zero_page g cells b place.page in
    let word = zero_word g.main_bytes page.0 place.slot in
    no_header_in_zeros word.0 h (sym (ap header_of (ap (λ (bytes : List ℕ). word_at (drop g.main_bytes bytes) place.slot) page.1 ∙ word.1)) ∙ e)

none_of : {X : Type 0} (o : Option X) → ((x : X) → o ≡ Some x → ⊥) → o ≡ None
none_of None never = refl
none_of (Some x) never = absurd (never x refl)

no_header : (g : Geometry) (cells : List (List ℕ)) → IsBlank g cells → (place : Place) → header_in g cells place ≡ None
no_header g cells b place = none_of (header_in g cells place) (no_header_at g cells b place)

-- ---- so no record is live

either_way : (t : Bool) (o : Option Header) → (if t then o else o) ≡ o
either_way true o = refl
either_way false o = refl

no_record : (g : Geometry) (cells : List (List ℕ)) → IsBlank g cells → (place : Place) → record_in g cells place ≡ None
unfolding record_in
no_record g cells b place = ap (λ (o : Option Header). if may_hold g place then below_sectors g o else None) (no_header g cells b place) ∙ either_way (may_hold g place) None

none_committed : (g : Geometry) (cells : List (List ℕ)) → IsBlank g cells → (place : Place) → committed_in g cells place ≡ None
unfolding committed_in
none_committed g cells b place = ap (if_committed g cells place) (no_record g cells b place)

none_kept : {X Y : Type 0} (f : X → Option Y) → ((x : X) → f x ≡ None) → (xs : List X) → filter_map f xs ≡ []
none_kept f none [] = refl
none_kept f none (x ∷ xs) = ap₂ (λ o ys. cons_option o ys) (none x) (none_kept f none xs)

none_of_sector : (g : Geometry) (cells : List (List ℕ)) → IsBlank g cells → (sector : ℕ) → records_of g cells sector ≡ []
unfolding records_of
none_of_sector g cells b sector = none_kept (λ (place : Place). of_sector sector place (committed_in g cells place)) (λ place. ap (of_sector sector place) (none_committed g cells b place)) (places g)

newest_of_none : newest [] ≡ None
unfolding newest
newest_of_none = refl

none_live : (g : Geometry) (cells : List (List ℕ)) → IsBlank g cells → (sector : ℕ) → live_record g cells sector ≡ None
unfolding live_record
none_live g cells b sector = ap newest (none_of_sector g cells b sector) ∙ newest_of_none

none_counted : (xs : List ℕ) → count_by (λ (x : ℕ). false) xs ≡ 0
none_counted [] = refl
none_counted (x ∷ xs) = none_counted xs

pub blank_counts : (g : Geometry) (cells : List (List ℕ)) → IsBlank g cells → (block : ℕ) → live_count g cells block ≡ 0
unfolding live_count
blank_counts g cells b block = (λ i. count_by (λ sector. stands_in g block (none_live g cells b sector i)) (range_with_len 0 g.sectors)) ∙ none_counted (range_with_len 0 g.sectors)

-- ---- what the cells are

same_for_all : {X : Type 0} (x : X) (ys : List ℕ) → map (λ (y : ℕ). x) ys ≡ replicate (length ys) x
same_for_all x [] = refl
same_for_all x (y ∷ ys) = ap (λ xs. x ∷ xs) (same_for_all x ys)

pub blank_stored : (g : Geometry) (decoding : Decoding) (cells : List (List ℕ)) → IsBlank g cells → stored g decoding cells ≡ replicate g.sectors (zero_sector g)
unfolding stored
blank_stored g decoding cells b =
    (λ i. map (λ sector. said_by g decoding cells (none_live g cells b sector i)) (range_with_len 0 g.sectors))
    ∙ (same_for_all (zero_sector g) (range_with_len 0 g.sectors) ∙ ap (λ (n : ℕ). replicate n (zero_sector g)) (length-range_with_len 0 g.sectors))

-- the header of the least numbers
first_header : Header
first_header = record { sector = 0; seq = 0; kind = 1 }

first_is_header : IsHeader (record { sector = 0; seq = 0; kind = 1 })
first_is_header = record { sector = omega arith; seq = omega arith; least_kind = omega arith; greatest_kind = omega arith }

blank_word : (m slots slot : ℕ) → slot < slots → word_at (drop m (blank_page (m + 16 * slots))) slot ≡ blank_page 14
blank_word m slots slot within =
    let long : 16 * slot + 15 - (16 * slot + 1) ≡ 14 = omega arith in
    ap (λ (xs : List ℕ). take (16 * slot + 15 - (16 * slot + 1)) (drop (16 * slot + 1) xs)) (drop-replicate m (m + 16 * slots) 0)
    ∙ (ap (take (16 * slot + 15 - (16 * slot + 1))) (drop-replicate (16 * slot + 1) (m + 16 * slots - m) 0)
    ∙ (take-replicate (16 * slot + 15 - (16 * slot + 1)) (m + 16 * slots - m - (16 * slot + 1)) 0 (omega arith) ∙ ap zeros long))

below_first : (g : Geometry) (cells : List (List ℕ)) → IsBlank g cells → (page slot : ℕ) → page < page_count g → slot < g.generations
    → (word : List ℕ) × (is_valid word ≡ true) × IsAbove word (word_at (spare_at g cells page) slot)
below_first g cells b page slot within fits =
    let h : Header = record { sector = 0; seq = 0; kind = 1 } in
    let valid : is_valid (spelling h) ≡ true = spelled_valid h first_is_header in
    let word : word_at (spare_at g cells page) slot ≡ blank_page 14 =
    ap (λ (bytes : List ℕ). word_at (drop g.main_bytes bytes) slot) (b.blank page within) ∙ blank_word g.main_bytes g.generations slot fits in
    (spelling h, valid, subst (IsAbove (spelling h)) (sym word) (above_blank (spelling h) 14 (valid_parts (spelling h) valid).long))

pub blank_sound : (g : Geometry) (cells : List (List ℕ)) → 0 < g.blocks → IsBlank g cells → IsSound g cells
blank_sound g cells some b = record {
  below_valid = below_first g cells b;
  seqs_differ = λ x y h k e f. absurd (no_header_at g cells b x h e);
  one_free = (0, some, blank_counts g cells b 0);
  small_seqs = λ place h e. absurd (no_header_at g cells b place h e);
}
