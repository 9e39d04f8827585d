-- The live records among the marks are those of the cells: which blocks they stand in, and what they tell.
use Rattle.std.proofs.Common.{◌≡◌, inl, inr, ℕ, zero, suc, ◌+◌, ◌-◌, ◌/◌, ◌<◌, Bool, true, false, cond, List, [], ◌∷◌, ◌++◌, map, length, replicate, ◌||◌, ◌==◌}
use Rattle.std.proofs.Common.{if◌then◌else◌, Option, Some, None, refl, sym, ap, ap₂, ◌∙◌, subst, arith}
use Rattle.std.specs.Prelude.{nat_eq, unwrap_or}
use Rattle.std.specs.List.{All, count_by, filter_map, range_with_len}
use Rattle.std.specs.Map.{lookup}
use Rattle.std.proofs.lemmas.Bool.{cases_Bool, cases_eq, and_parts, eqb-true, eq-eqb, ne_eqb, ltb-true, false≢true}
use Rattle.std.proofs.lemmas.Option.{same_Some, none-some}
use Rattle.std.proofs.lemmas.List.Elements.{All-nil, All-cons, All-head, All-tail}
use Rattle.std.proofs.lemmas.List.Sums.{sum_by-cons}
use Rattle.zero_count.specs.declared.Header.{Header}
use Rattle.striped.specs.Meaning.{Decoding}
use Rattle.page_codec.specs.declared.place.Place.{Place}
use Rattle.page_codec.specs.Geometry.{Geometry, block_of}
use Rattle.page_codec.specs.Records.{Placed, places, header_in, may_hold, live_record}
use Rattle.page_codec.specs.Sectors.{said_by, stored}
use Rattle.page_codec.specs.Sound.{stands_in, live_count}
use Rattle.page_codec.proofs.Newest.{Member, member_kept, kept_member, newest_some}
use Rattle.image_audit.specs.declared.mark.Mark.{Mark}
use Rattle.image_audit.specs.Held.{first_met, sectors_found, without_zeros, unless_zeros, bytes_held, held, filled_up, array_told}
use Rattle.image_audit.specs.Marks.{is_counted, mark_of, marks_in, placed_of, counted_of, counted_sector, newest_of, sectors_in, AreLive}
use Rattle.image_audit.specs.Said.{is_taken, told_by, IsWhole}
use Rattle.image_audit.proofs.FirstMet.{member_met}
use Rattle.image_audit.proofs.Marked.{newest_is_live, sectors_are_found, counted_parts}
use Rattle.image_audit.proofs.Repeats.{all_member}

-- ---- what a live mark is

member_map : {X Y : Type 0} (f : X → Y) (x : X) (xs : List X) → Member x xs → Member (f x) (map f xs)
member_map f x [] m = absurd m
member_map f x (y ∷ ys) m = elim m [ inl same ↦ inl (ap f same) | inr n ↦ inr (member_map f x ys n) ]

mapped_member : {X Y : Type 0} (f : X → Y) (y : Y) (xs : List X) → Member y (map f xs) → (x : X) × Member x xs × (y ≡ f x)
mapped_member f y [] m = absurd m
mapped_member f y (x ∷ xs) m = elim m [ inl same ↦ (x, inl refl, same) | inr n ↦ (let r = mapped_member f y xs n in (r.0, inr r.1, r.2)) ]

-- the newest record of a sector is that of a mark that counts
pub record IsCountedMark (marks : List Mark) (sector : ℕ) (r : Placed) : Type 0 where
  pub mark : Mark
  pub listed : Member mark marks
  pub counts : mark.counts ≡ true
  pub of : mark.header.sector ≡ sector
  pub is : r ≡ placed_of mark

pub newest_mark : (marks : List Mark) (sector : ℕ) (r : Placed) → newest_of marks sector ≡ Some r → IsCountedMark marks sector r
unfolding newest_of
newest_mark marks sector r e =
    let one = (newest_some (filter_map (counted_of sector) marks) r e).one in
    let k = member_kept (counted_of sector) r marks one in
    let p = counted_parts sector k.0 r k.2 in
    record { mark = k.0; listed = k.1; counts = p.0; of = p.1; is = p.2 }

-- a mark of the cells
record IsMarkOf (g : Geometry) (cells : List (List ℕ)) (mark : Mark) : Type 0 where
  header : header_in g cells mark.place ≡ Some mark.header
  counted : mark.counts ≡ is_counted g cells mark.place mark.header

marked_parts : (g : Geometry) (cells : List (List ℕ)) (place : Place) (o : Option Header) (mark : Mark) → header_in g cells place ≡ o → mark_of g cells place o ≡ Some mark → IsMarkOf g cells mark
marked_parts g cells place None mark e f = absurd (none-some mark f)
marked_parts g cells place (Some h) mark e f =
    let same = same_Some (record { place = place; header = h; counts = is_counted g cells place h }) mark f in
    subst (IsMarkOf g cells) same (record { header = e; counted = refl })

mark_parts : (g : Geometry) (cells : List (List ℕ)) (mark : Mark) → Member mark (marks_in g cells (places g)) → IsMarkOf g cells mark
unfolding marks_in
mark_parts g cells mark m =
    let k = member_kept (λ place. mark_of g cells place (header_in g cells place)) mark (places g) m in
    marked_parts g cells k.0 (header_in g cells k.0) mark refl k.2

-- a live record stands where one may, and is of one of the sectors
pub record IsLiveMark (g : Geometry) (cells : List (List ℕ)) (mark : Mark) : Type 0 where
  pub live : live_record g cells mark.header.sector ≡ Some (placed_of mark)
  pub holds : may_hold g mark.place ≡ true
  pub sector : mark.header.sector < g.sectors

counted_live : (g : Geometry) (cells : List (List ℕ)) (sector : ℕ) (r : Placed) → newest_of (marks_in g cells (places g)) sector ≡ Some r
    → (live_record g cells sector ≡ Some r) × (may_hold g r.place ≡ true) × (r.header.sector ≡ sector) × (sector < g.sectors)
counted_live g cells sector r e =
    let n : IsCountedMark (marks_in g cells (places g)) sector r = newest_mark (marks_in g cells (places g)) sector r e in
    let p : IsMarkOf g cells n.mark = mark_parts g cells n.mark n.listed in
    let tests = and_parts _ _ (sym p.counted ∙ n.counts) in
    let more = and_parts _ _ tests.0 in (
      sym (newest_is_live g cells sector) ∙ e,
      subst (λ (x : Placed). may_hold g x.place ≡ true) (sym n.is) more.0,
      ap (λ (x : Placed). x.header.sector) n.is ∙ n.of,
      subst (λ (s : ℕ). s < g.sectors) n.of (ltb-true _ _ more.1),
    )

pub live_marks : (g : Geometry) (cells : List (List ℕ)) (live : List Mark) → All (λ mark. newest_of (marks_in g cells (places g)) mark.header.sector ≡ Some (placed_of mark)) live
    → All (IsLiveMark g cells) live
live_marks g cells [] h = All-nil (IsLiveMark g cells)
live_marks g cells (mark ∷ live) h =
    let P : Mark → Type 0 = λ m. newest_of (marks_in g cells (places g)) m.header.sector ≡ Some (placed_of m) in
    let c = counted_live g cells mark.header.sector (placed_of mark) (All-head P mark live h) in
    All-cons (IsLiveMark g cells) mark live (record { live = c.0; holds = c.1; sector = c.3 }) (live_marks g cells live (All-tail P mark live h))

-- a sector with a live record is found
found_sector : (g : Geometry) (cells : List (List ℕ)) (sector : ℕ) (r : Placed) → live_record g cells sector ≡ Some r → Member sector (sectors_in (marks_in g cells (places g)))
unfolding sectors_in
found_sector g cells sector r e =
    let n : IsCountedMark (marks_in g cells (places g)) sector r = newest_mark (marks_in g cells (places g)) sector r (newest_is_live g cells sector ∙ e) in
    kept_member counted_sector n.mark sector (marks_in g cells (places g)) n.listed (ap (λ (t : Bool). if t then Some n.mark.header.sector else None) n.counts ∙ ap Some n.of)

-- and its record is one of the live marks
pub live_listed : (g : Geometry) (cells : List (List ℕ)) (live : List Mark) (sector : ℕ) (r : Placed) → AreLive (marks_in g cells (places g)) live → live_record g cells sector ≡ Some r
    → (mark : Mark) × Member mark live × (mark.header.sector ≡ sector) × (placed_of mark ≡ r)
live_listed g cells live sector r are e =
    let m : Member sector (first_met (sectors_in (marks_in g cells (places g)))) = member_met sector (sectors_in (marks_in g cells (places g))) (found_sector g cells sector r e) in
    let k = mapped_member (λ (mark : Mark). mark.header.sector) sector live (subst (Member sector) (sym are.sectors) m) in
    let l : IsLiveMark g cells k.0 = all_member (IsLiveMark g cells) live k.0 (live_marks g cells live are.newest) k.1 in
    (k.0, k.1, sym k.2, same_Some (placed_of k.0) r (sym l.live ∙ (ap (live_record g cells) (sym k.2) ∙ e)))

-- ---- blocks

taken_member : (g : Geometry) (live : List Mark) (block : ℕ) → is_taken g live block ≡ true → (mark : Mark) × Member mark live × (block_of g mark.place.page ≡ block)
taken_member g [] block e = absurd (false≢true e)
taken_member g (mark ∷ live) block e = elim (cases_Bool (mark.place.page / g.pages == block)) [
  | inl here ↦ (mark, inl refl, eqb-true _ block here)
  | inr other ↦ (let r = taken_member g live block (sym (ap (λ (t : Bool). t || is_taken g live block) other) ∙ e) in (r.0, inr r.1, r.2))
]

member_taken : (g : Geometry) (live : List Mark) (block : ℕ) (mark : Mark) → Member mark live → block_of g mark.place.page ≡ block → is_taken g live block ≡ true
member_taken g [] block mark m e = absurd m
member_taken g (first ∷ live) block mark m e = elim m [
  | inl same ↦ ap (λ (t : Bool). t || is_taken g live block) (eq-eqb _ block (ap (λ (x : Mark). block_of g x.place.page) (sym same) ∙ e))
  | inr later ↦ or_true (first.place.page / g.pages == block) (is_taken g live block) (member_taken g live block mark later e)
]
  where
    or_true : (a b : Bool) → b ≡ true → (a || b) ≡ true
    or_true true b e = refl
    or_true false b e = e

-- a count is 0 exactly where no element passes
count_none : (p : ℕ → Bool) (xs : List ℕ) → ((x : ℕ) → Member x xs → p x ≡ false) → count_by p xs ≡ 0
count_none p [] h = refl
count_none p (x ∷ xs) h =
    sum_by-cons (λ y. cond (p y) 1 0) x xs
    ∙ (ap₂ (λ (t : Bool) (n : ℕ). cond t 1 0 + n) (h x (inl refl)) (count_none p xs (λ y m. h y (inr m))) ∙ (let z : 0 + 0 ≡ 0 = omega arith in z))

count_some : (p : ℕ → Bool) (xs : List ℕ) (x : ℕ) → Member x xs → p x ≡ true → count_by p xs ≡ 0 → ⊥
count_some p [] x m e none = absurd m
count_some p (y ∷ ys) x m e none =
    let all : cond (p y) 1 0 + count_by p ys ≡ 0 = sym (sum_by-cons (λ z. cond (p z) 1 0) y ys) ∙ none in
    elim m [
      | inl same ↦ absurd (one_more (cond (p y) 1 0) (count_by p ys) all (ap (λ (t : Bool). cond t 1 0) (ap p (sym same) ∙ e)))
      | inr later ↦ count_some p ys x later e (no_more (cond (p y) 1 0) (count_by p ys) all)
    ]
  where
    one_more : (a b : ℕ) → a + b ≡ 0 → a ≡ 1 → ⊥
    one_more a b h k = omega arith

    no_more : (a b : ℕ) → a + b ≡ 0 → b ≡ 0
    no_more a b h = omega arith

member_range : (a n k : ℕ) → k < n → Member (a + k) (range_with_len a n)
member_range a zero k h = absurd (omega arith)
member_range a (suc n) zero h = inl (omega arith)
member_range a (suc n) (suc k) h = inr (subst (λ z. Member z (range_with_len (a + 1) n)) (omega arith) (member_range (a + 1) n k (omega arith)))

member_below : (n k : ℕ) → k < n → Member k (range_with_len 0 n)
member_below n k h = subst (λ z. Member z (range_with_len 0 n)) (omega arith) (member_range 0 n k h)

pub taken_counts : (g : Geometry) (cells : List (List ℕ)) (live : List Mark) (block : ℕ) → AreLive (marks_in g cells (places g)) live → is_taken g live block ≡ true → live_count g cells block ≡ 0 → ⊥
unfolding live_count
taken_counts g cells live block are e none =
    let k = taken_member g live block e in
    let l : IsLiveMark g cells k.0 = all_member (IsLiveMark g cells) live k.0 (live_marks g cells live are.newest) k.1 in
    count_some (λ sector. stands_in g block (live_record g cells sector)) (range_with_len 0 g.sectors) k.0.header.sector (member_below g.sectors k.0.header.sector l.sector)
    (ap (stands_in g block) l.live ∙ eq-eqb _ block k.2) none

pub untaken_counts : (g : Geometry) (cells : List (List ℕ)) (live : List Mark) (block : ℕ) → AreLive (marks_in g cells (places g)) live → is_taken g live block ≡ false → live_count g cells block ≡ 0
unfolding live_count
untaken_counts g cells live block are e = count_none (λ sector. stands_in g block (live_record g cells sector)) (range_with_len 0 g.sectors) (λ sector m. at sector (live_record g cells sector) refl)
  where
    at : (sector : ℕ) (o : Option Placed) → live_record g cells sector ≡ o → stands_in g block o ≡ false
    at sector None there = refl
    at sector (Some r) there = elim (cases_Bool (block_of g r.place.page == block)) [
      | inr other ↦ other
      | inl here ↦ (
          let k = live_listed g cells live sector r are there in
          absurd (false≢true (sym e ∙ member_taken g live block k.0 k.1 (ap (λ (x : Placed). block_of g x.place.page) k.3 ∙ eqb-true _ block here))))
    ]

-- ---- what is told

pub told_held : (g : Geometry) (d : Decoding) (cells : List (List ℕ)) (live : List Mark) → AreLive (marks_in g cells (places g)) live → map (told_by g d cells) live ≡ held g d cells
unfolding held
told_held g d cells live are =
    each live (live_marks g cells live are.newest)
    ∙ ap (map (λ sector. (sector, bytes_held g d cells sector))) (are.sectors ∙ sectors_are_found g cells)
  where
    each : (ms : List Mark) → All (IsLiveMark g cells) ms → map (told_by g d cells) ms ≡ map (λ sector. (sector, bytes_held g d cells sector)) (map (λ mark. mark.header.sector) ms)
    each [] h = refl
    each (mark ∷ ms) h =
        let l : IsLiveMark g cells mark = All-head (IsLiveMark g cells) mark ms h in
        ap₂ (λ (x : ℕ × List ℕ) (xs : List (ℕ × List ℕ)). x ∷ xs) (ap (λ (o : Option Placed). (mark.header.sector, without_zeros (said_by g d cells o))) (sym l.live))
        (each ms (All-tail (IsLiveMark g cells) mark ms h))

-- zeros up to its length give a row back
filled_row : (row : List ℕ) → filled_up (length row) (without_zeros row) ≡ row
filled_row [] = refl
filled_row (byte ∷ row) = at byte row (without_zeros row) refl (filled_row row)
  where
    at : (byte : ℕ) (row short : List ℕ) → without_zeros row ≡ short → filled_up (length row) (without_zeros row) ≡ row
        → filled_up (length (byte ∷ row)) (unless_zeros byte (without_zeros row)) ≡ byte ∷ row
    at byte row (x ∷ xs) e filled =
        ap (λ (s : List ℕ). filled_up (length (byte ∷ row)) (unless_zeros byte s)) e
        ∙ ap (λ (s : List ℕ). byte ∷ s) (ap (λ (n : ℕ). (x ∷ xs) ++ replicate n 0) (let c : length (byte ∷ row) - length (byte ∷ x ∷ xs) ≡ length row - length (x ∷ xs) = omega arith in c)
        ∙ (ap (filled_up (length row)) (sym e) ∙ filled))
    at byte row [] e filled =
        let zeros : replicate (length row) 0 ≡ row = ap (λ (n : ℕ). replicate n 0) (let c : length row ≡ length row - 0 = omega arith in c) ∙ (ap (filled_up (length row)) (sym e) ∙ filled) in
        ap (λ (s : List ℕ). filled_up (length (byte ∷ row)) (unless_zeros byte s)) e ∙ elim (cases_eq byte 0) [
          | inl is ↦ ap (λ (t : Bool). filled_up (length (byte ∷ row)) (if t then [] else byte ∷ [])) (eq-eqb byte 0 is)
              ∙ (ap (λ (n : ℕ). replicate n 0) (let c : length (byte ∷ row) - 0 ≡ suc (length row) = omega arith in c) ∙ ap₂ (λ (b : ℕ) (s : List ℕ). b ∷ s) (sym is) zeros)
          | inr some ↦ ap (λ (t : Bool). filled_up (length (byte ∷ row)) (if t then [] else byte ∷ [])) (ne_eqb byte 0 some)
              ∙ ap (λ (s : List ℕ). byte ∷ s) (ap (λ (n : ℕ). replicate n 0) (let c : length (byte ∷ row) - length (byte ∷ []) ≡ length row = omega arith in c) ∙ zeros)
        ]

-- the bytes of a sector that is listed, and none of others
looked_up : (f : ℕ → List ℕ) (sector : ℕ) (ns : List ℕ) → Member sector ns → lookup (nat_eq sector) (map (λ s. (s, f s)) ns) ≡ Some (f sector)
looked_up f sector [] m = absurd m
looked_up f sector (n ∷ ns) m = elim (cases_eq sector n) [
  | inl same ↦ ap (λ (t : Bool). cond t (Some (f n)) (lookup (nat_eq sector) (map (λ s. (s, f s)) ns))) (eq-eqb sector n same) ∙ ap (λ (s : ℕ). Some (f s)) (sym same)
  | inr apart ↦ ap (λ (t : Bool). cond t (Some (f n)) (lookup (nat_eq sector) (map (λ s. (s, f s)) ns))) (ne_eqb sector n apart)
      ∙ looked_up f sector ns (elim m [ inl here ↦ absurd (apart here) | inr later ↦ later ])
]

not_looked_up : (f : ℕ → List ℕ) (sector : ℕ) (ns : List ℕ) → (Member sector ns → ⊥) → lookup (nat_eq sector) (map (λ s. (s, f s)) ns) ≡ None
not_looked_up f sector [] m = refl
not_looked_up f sector (n ∷ ns) m =
    ap (λ (t : Bool). cond t (Some (f n)) (lookup (nat_eq sector) (map (λ s. (s, f s)) ns))) (ne_eqb sector n (λ same. m (inl same)))
    ∙ not_looked_up f sector ns (λ later. m (inr later))

pub told_stored : (g : Geometry) (d : Decoding) (cells : List (List ℕ)) (live : List Mark) → AreLive (marks_in g cells (places g)) live → All (IsWhole g d cells) live
    → array_told g (held g d cells) ≡ stored g d cells
unfolding held stored
told_stored g d cells live are whole = λ i. map (λ sector. each sector (live_record g cells sector) refl i) (range_with_len 0 g.sectors)
  where
    found : List ℕ
    found = sectors_found g cells

    each : (sector : ℕ) (o : Option Placed) → live_record g cells sector ≡ o
        → filled_up g.sector_bytes (unwrap_or (lookup (nat_eq sector) (map (λ s. (s, bytes_held g d cells s)) found)) []) ≡ said_by g d cells (live_record g cells sector)
    each sector None there =
        ap (λ (o : Option (List ℕ)). filled_up g.sector_bytes (unwrap_or o [])) (not_looked_up (bytes_held g d cells) sector found (λ m. nowhere m))
        ∙ (ap (λ (n : ℕ). replicate n 0) (let c : g.sector_bytes - 0 ≡ g.sector_bytes = omega arith in c) ∙ ap (said_by g d cells) (sym there))
      where
        nowhere : Member sector found → ⊥
        nowhere m =
            let k = mapped_member (λ (mark : Mark). mark.header.sector) sector live (subst (Member sector) (sym (are.sectors ∙ sectors_are_found g cells)) m) in
            let l : IsLiveMark g cells k.0 = all_member (IsLiveMark g cells) live k.0 (live_marks g cells live are.newest) k.1 in
            none-some (placed_of k.0) (sym there ∙ (ap (live_record g cells) k.2 ∙ l.live))
    each sector (Some r) there =
        let k = live_listed g cells live sector r are there in
        let long : length (said_by g d cells (Some (placed_of k.0))) ≡ g.sector_bytes = all_member (IsWhole g d cells) live k.0 whole k.1 in
        let row : said_by g d cells (live_record g cells sector) ≡ said_by g d cells (Some (placed_of k.0)) = ap (said_by g d cells) (there ∙ ap Some (sym k.3)) in
        let m : Member sector found =
        subst (Member sector) (are.sectors ∙ sectors_are_found g cells)
        (subst (λ (s : ℕ). Member s (map (λ mark. mark.header.sector) live)) k.2 (member_map (λ (mark : Mark). mark.header.sector) k.0 live k.1)) in
        ap (λ (o : Option (List ℕ)). filled_up g.sector_bytes (unwrap_or o [])) (looked_up (bytes_held g d cells) sector found m)
        ∙ (ap (λ (n : ℕ). filled_up n (bytes_held g d cells sector)) (sym (ap (length {A = ℕ}) row ∙ long)) ∙ filled_row (said_by g d cells (live_record g cells sector)))
