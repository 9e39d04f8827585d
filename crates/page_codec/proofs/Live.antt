-- What changes a live record: the committed records alone.
use Rattle.std.proofs.Common.{◌≡◌, ◌≢◌, ◌⊎◌, inl, inr, ℕ, zero, suc, ◌+◌, ◌<◌, ◌≤◌, Bool, true, false, List, [], ◌∷◌, ◌++◌, map, ◌||◌, ◌==◌, nat_lt, if◌then◌else◌, Option, Some, None, refl, sym}
use Rattle.std.proofs.Common.{ap, ◌∙◌, arith, subst}
use Rattle.std.specs.List.{filter_map, flat_map, range_with_len}
use Rattle.std.proofs.lemmas.Bool.{and_parts, or_cases, eqb-true, ltb-true, eq-eqb, ne_eqb, cases_Bool, cond-true, cond-false}
use Rattle.std.proofs.lemmas.Option.{same_Some, none-some}
use Rattle.std.proofs.lemmas.Bool.Decides.{nat_tests}
use Rattle.zero_count.specs.declared.Header.{Header}
use Rattle.page_codec.specs.declared.place.Place.{Place}
use Rattle.page_codec.specs.Geometry.{Geometry, page_count}
use Rattle.page_codec.specs.Records.{Placed, may_hold, record_in, below_sectors, header_in, if_committed, committed_in, of_sector, places, records_of, is_newer, newest, live_record}
use Rattle.page_codec.proofs.Newest.{Member, member_kept, kept_member, newest_some, newest_of, newest_is, same_place}

-- ---- the list of all slots

member_range : (a n k : ℕ) → k < n → Member (a + k) (range_with_len a n)
member_range a zero k h = absurd (omega arith)
member_range a (suc n) zero h = inl (omega arith)
member_range a (suc n) (suc k) h = inr (subst (λ z. Member z (range_with_len (a + 1) n)) (omega arith) (member_range (a + 1) n k (omega arith)))

member_map : {X Y : Type 0} (f : X → Y) (x : X) (xs : List X) → Member x xs → Member (f x) (map f xs)
member_map f x [] m = absurd m
member_map f x (y ∷ ys) m = elim m [ inl same ↦ inl (ap f same) | inr n ↦ inr (member_map f x ys n) ]

member_left : {X : Type 0} (x : X) (xs ys : List X) → Member x xs → Member x (xs ++ ys)
member_left x [] ys m = absurd m
member_left x (y ∷ xs) ys m = elim m [ inl same ↦ inl same | inr n ↦ inr (member_left x xs ys n) ]

member_right : {X : Type 0} (x : X) (xs ys : List X) → Member x ys → Member x (xs ++ ys)
member_right x [] ys m = m
member_right x (y ∷ xs) ys m = inr (member_right x xs ys m)

member_flat_map : {X Y : Type 0} (f : X → List Y) (x : X) (y : Y) (xs : List X) → Member x xs → Member y (f x) → Member y (flat_map f xs)
member_flat_map f x y [] m n = absurd m
member_flat_map f x y (z ∷ zs) m n =
    elim m [ inl same ↦ member_left y (f z) (flat_map f zs) (subst (λ w. Member y (f w)) same n) | inr k ↦ member_right y (f z) (flat_map f zs) (member_flat_map f x y zs k n) ]

place_listed : (g : Geometry) (place : Place) → place.page < page_count g → place.slot < g.generations → Member place (places g)
place_listed g place h k =
    member_flat_map (λ page. map (λ slot. record { page = page; slot = slot }) (range_with_len 0 g.generations)) place.page place (range_with_len 0 (page_count g))
    (member_range_0 (page_count g) place.page h)
    (member_map (λ (slot : ℕ). let p : Place = record { page = place.page; slot = slot } in p) place.slot (range_with_len 0 g.generations) (member_range_0 g.generations place.slot k))
  where
    member_range_0 : (n k : ℕ) → k < n → Member k (range_with_len 0 n)
    member_range_0 n k h = subst (λ z. Member z (range_with_len 0 n)) (omega arith) (member_range 0 n k h)

-- ---- committed records

pub holds_within : (g : Geometry) (place : Place) → 1 ≤ g.generations → may_hold g place ≡ true → (place.page < page_count g) × (place.slot < g.generations)
holds_within g place one h =
    let p = and_parts _ _ h in
    (ltb-true _ _ p.0, elim (or_cases _ _ p.1) [ inl zero_slot ↦ (let e = eqb-true place.slot 0 zero_slot in omega arith) | inr more ↦ ltb-true _ _ (and_parts _ _ more).0 ])

pub committed_holds : (g : Geometry) (cells : List (List ℕ)) (place : Place) (h : Header) → committed_in g cells place ≡ Some h → may_hold g place ≡ true
unfolding committed_in record_in
committed_holds g cells place h e = at (may_hold g place) refl e
  where
    at : (t : Bool) → may_hold g place ≡ t → if_committed g cells place (if t then below_sectors g (header_in g cells place) else None) ≡ Some h → may_hold g place ≡ true
    at true e k = e
    at false e k = absurd (none-some h k)

of_sector_some : (sector : ℕ) (place : Place) (o : Option Header) (x : Placed) → of_sector sector place o ≡ Some x → (o ≡ Some x.header) × (x.place ≡ place) × (x.header.sector ≡ sector)
of_sector_some sector place None x e = absurd (none-some x e)
of_sector_some sector place (Some h) x e = at (h.sector == sector) refl e
  where
    at : (t : Bool) → (h.sector == sector) ≡ t → (if t then Some (record { place = place; header = h }) else None) ≡ Some x → (Some h ≡ Some x.header) × (x.place ≡ place) × (x.header.sector ≡ sector)
    at true e k =
        let same = same_Some _ x k in
        (ap (λ (y : Placed). Some y.header) same, sym (ap (λ (y : Placed). y.place) same), sym (ap (λ (y : Placed). y.header.sector) same) ∙ eqb-true h.sector sector e)
    at false e k = absurd (none-some x k)

pub of_records : (g : Geometry) (cells : List (List ℕ)) (sector : ℕ) (x : Placed) → Member x (records_of g cells sector) → (committed_in g cells x.place ≡ Some x.header) × (x.header.sector ≡ sector)
unfolding records_of
of_records g cells sector x m =
    let h = member_kept (λ place. of_sector sector place (committed_in g cells place)) x (places g) m in
    let k = of_sector_some sector h.0 (committed_in g cells h.0) x h.2 in
    (subst (λ p. committed_in g cells p ≡ Some x.header) (sym k.1) k.0, k.2)

pub in_records : (g : Geometry) (cells : List (List ℕ)) (place : Place) (h : Header) → 1 ≤ g.generations → committed_in g cells place ≡ Some h
    → Member (record { place = place; header = h }) (records_of g cells h.sector)
unfolding records_of
in_records g cells place h one e =
    let w = holds_within g place one (committed_holds g cells place h e) in
    kept_member (λ p. of_sector h.sector p (committed_in g cells p)) place (record { place = place; header = h }) (places g) (place_listed g place w.0 w.1)
    (ap (of_sector h.sector place) e ∙ cond-true (h.sector == h.sector) _ _ (eq-eqb h.sector h.sector refl))

-- ---- live records

-- the same committed records, the same live records
pub live_same : (g : Geometry) (old new : List (List ℕ)) → ((place : Place) → committed_in g new place ≡ committed_in g old place) → (sector : ℕ) → live_record g new sector ≡ live_record g old sector
unfolding live_record records_of
live_same g old new h sector = λ i. newest (filter_map (λ place. of_sector sector place (h place i)) (places g))

-- What a gate does: one record begins to count, with a seq greater than all. It is the live record of its sector, and
-- no other sector's changes.
pub gate_makes_live : (g : Geometry) (old new : List (List ℕ)) (place : Place) (h : Header) → 1 ≤ g.generations
    → committed_in g old place ≡ None → committed_in g new place ≡ Some h
    → ((other : Place) → (other ≡ place) ⊎ (committed_in g new other ≡ committed_in g old other))
    → ((other : Place) (k : Header) → committed_in g old other ≡ Some k → k.seq < h.seq)
    → live_record g new h.sector ≡ Some (record { place = place; header = h })
unfolding live_record
gate_makes_live g old new place h one before after others newest_seq =
    newest_is (records_of g new h.sector) (record { place = place; header = h }) (in_records g new place h one after) (λ x m.
    let k = of_records g new h.sector x m in
    elim (others x.place) [
      | inl same ↦ (let header_same = same_Some h x.header (sym after ∙ (ap (committed_in g new) (sym same) ∙ k.0)) in
          inl (λ i. record { place = same i; header = sym header_same i }))
      | inr kept ↦ inr (less x.header.seq h.seq _ (newest_seq x.place x.header (sym kept ∙ k.0)))
    ])
  where
    less : (a b : ℕ) (rest : Bool) → a < b → (nat_lt a b || rest) ≡ true
    less a b rest l = grind (arith, nat_tests)

pub gate_leaves_others : (g : Geometry) (old new : List (List ℕ)) (place : Place) (h : Header)
    → committed_in g old place ≡ None → committed_in g new place ≡ Some h
    → ((other : Place) → (other ≡ place) ⊎ (committed_in g new other ≡ committed_in g old other))
    → (sector : ℕ) → sector ≢ h.sector → live_record g new sector ≡ live_record g old sector
unfolding live_record records_of
gate_leaves_others g old new place h before after others sector apart = λ i. newest (filter_map (λ p. same p i) (places g))
  where
    at_place : of_sector sector place (committed_in g new place) ≡ of_sector sector place (committed_in g old place)
    at_place = ap (of_sector sector place) after ∙ (cond-false (h.sector == sector) _ _ (ne_eqb h.sector sector (λ e. apart (sym e))) ∙ sym (ap (of_sector sector place) before))

    same : (p : Place) → of_sector sector p (committed_in g new p) ≡ of_sector sector p (committed_in g old p)
    same p = elim (others p) [
      | inl e ↦ subst (λ q. of_sector sector q (committed_in g new q) ≡ of_sector sector q (committed_in g old q)) (sym e) at_place
      | inr kept ↦ ap (of_sector sector p) kept
    ]

newest_none : (x : Placed) (xs : List Placed) → newest xs ≡ None → Member x xs → ⊥
newest_none x xs e m = let q = newest_of x xs m in none-some q.0 (sym e ∙ q.1)

-- Where committed records only vanish, and no live one, the live records stay.
pub vanishing_keeps : (g : Geometry) (old new : List (List ℕ)) → 1 ≤ g.generations
    → ((place : Place) (h : Header) → committed_in g new place ≡ Some h → committed_in g old place ≡ Some h)
    → (sector : ℕ) → ((x : Placed) → live_record g old sector ≡ Some x → committed_in g new x.place ≡ Some x.header)
    → live_record g new sector ≡ live_record g old sector
unfolding live_record
vanishing_keeps g old new one shrinks sector keeps = at (newest (records_of g old sector)) refl
  where
    back : (x : Placed) → Member x (records_of g new sector) → Member x (records_of g old sector)
    back x m =
        let k = of_records g new sector x m in
        subst (λ s. Member x (records_of g old s)) k.1 (in_records g old x.place x.header one (shrinks x.place x.header k.0))

    none : (o : Option Placed) → newest (records_of g new sector) ≡ o → newest (records_of g old sector) ≡ None → o ≡ None
    none None e k = refl
    none (Some x) e k = absurd (newest_none x (records_of g old sector) k (back x (newest_some _ x e).one))

    at : (o : Option Placed) → newest (records_of g old sector) ≡ o → newest (records_of g new sector) ≡ newest (records_of g old sector)
    at None e = none (newest (records_of g new sector)) refl e ∙ sym e
    at (Some r) e =
        let best = newest_some (records_of g old sector) r e in
        let of_r = of_records g old sector r best.one in
        newest_is (records_of g new sector) r
        (subst (λ s. Member r (records_of g new s)) of_r.1 (in_records g new r.place r.header one (keeps r e)))
        (λ x m. elim (cases_Bool (is_newer r x)) [
          | inl newer ↦ inr newer
          | inr not_newer ↦ (
              let p = same_place x r (best.each x (back x m)) not_newer in
              let place_same : x.place ≡ r.place = λ i. record { page = p.1 i; slot = p.2 i } in
              let header_same = same_Some x.header r.header (sym (of_records g old sector x (back x m)).0 ∙ (ap (committed_in g old) place_same ∙ of_r.0)) in
              inl (λ i. record { place = place_same i; header = header_same i }))
        ]) ∙ sym e

-- a live record is committed, and is of its sector
pub live_counts : (g : Geometry) (cells : List (List ℕ)) (sector : ℕ) (x : Placed) → live_record g cells sector ≡ Some x → committed_in g cells x.place ≡ Some x.header
unfolding live_record
live_counts g cells sector x e = (of_records g cells sector x (newest_some (records_of g cells sector) x e).one).0
