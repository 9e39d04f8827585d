-- The slots of a die stand in order, so a header that comes later stands in another slot.
use Rattle.std.proofs.Common.{◌≡◌, ◌⊎◌, inl, inr, ℕ, zero, suc, ◌+◌, ◌<◌, ◌≤◌, List, [], ◌∷◌, ◌++◌, map, Option, Some, None, refl, sym, ap, ◌∙◌, subst, arith}
use Rattle.std.specs.List.{flat_map, filter_map, cons_option, range_with_len}
use Rattle.std.proofs.lemmas.Option.{same_Some, none-some}
use Rattle.zero_count.specs.declared.Header.{Header}
use Rattle.page_codec.specs.declared.place.Place.{Place}
use Rattle.page_codec.specs.Geometry.{Geometry, page_count}
use Rattle.page_codec.specs.Records.{Placed, places, header_in}
use Rattle.page_codec.proofs.Newest.{Member, member_kept}
use Rattle.image_audit.specs.Verdicts.{at_place, placed_in, headers}

-- by page and then by slot
abbrev Before : Place → Place → Type 0
Before a b = (a.page < b.page) ⊎ ((a.page ≡ b.page) × (a.slot < b.slot))

-- each element stands before those that follow it
abbrev Ordered : {X : Type 0} → (X → Place) → List X → Type 0
Ordered at [] = Unit {0}
Ordered at (x ∷ xs) = ((y : _) → Member y xs → Before (at x) (at y)) × Ordered at xs

member_parts : {X : Type 0} (y : X) (xs ys : List X) → Member y (xs ++ ys) → Member y xs ⊎ Member y ys
member_parts y [] ys m = inr m
member_parts y (x ∷ xs) ys m = elim m [
  | inl here ↦ inl (inl here)
  | inr later ↦ elim (member_parts y xs ys later) [ inl left ↦ inl (inr left) | inr right ↦ inr right ]
]

ordered_append : {X : Type 0} (at : X → Place) (xs ys : List X) → Ordered at xs → Ordered at ys → ((x y : X) → Member x xs → Member y ys → Before (at x) (at y)) → Ordered at (xs ++ ys)
ordered_append at [] ys h k across = k
ordered_append at (x ∷ xs) ys h k across = (
  λ y m. elim (member_parts y xs ys m) [ inl left ↦ h.0 y left | inr right ↦ across x y (inl refl) right ],
  ordered_append at xs ys h.1 k (λ x' y m n. across x' y (inr m) n),
)

-- ---- the slots of a page, and those of pages from one on

slot_within : (page a n : ℕ) (place : Place) → Member place (map (at_place page) (range_with_len a n)) → (place.page ≡ page) × (a ≤ place.slot) × (place.slot < a + n)
slot_within page a zero place m = absurd m
slot_within page a (suc n) place m = elim m [
  | inl here ↦ (ap (λ (p : Place). p.page) here, let e : place.slot ≡ a = ap (λ (p : Place). p.slot) here in omega arith, let e : place.slot ≡ a = ap (λ (p : Place). p.slot) here in omega arith)
  | inr later ↦ (let w = slot_within page (a + 1) n place later in (w.0, let l : a + 1 ≤ place.slot = w.1 in omega arith, let l : place.slot < a + 1 + n = w.2 in omega arith))
]

ordered_slots : (page a n : ℕ) → Ordered (λ (p : Place). p) (map (at_place page) (range_with_len a n))
ordered_slots page a zero = tt
ordered_slots page a (suc n) = (
  λ y m. (let w = slot_within page (a + 1) n y m in inr (sym w.0, let l : a + 1 ≤ y.slot = w.1 in omega arith)),
  ordered_slots page (a + 1) n,
)

page_within : (count a n : ℕ) (place : Place) → Member place (flat_map (λ page. map (at_place page) (range_with_len 0 count)) (range_with_len a n))
    → (a ≤ place.page) × (place.page < a + n) × (place.slot < count)
page_within count a zero place m = absurd m
page_within count a (suc n) place m = elim (member_parts place (map (at_place a) (range_with_len 0 count)) _ m) [
  | inl here ↦ (let w = slot_within a 0 count place here in let e : place.page ≡ a = w.0 in (omega arith, omega arith, let l : place.slot < 0 + count = w.2 in omega arith))
  | inr later ↦ (let w = page_within count (a + 1) n place later in (let l : a + 1 ≤ place.page = w.0 in omega arith, let l : place.page < a + 1 + n = w.1 in omega arith, w.2))
]

ordered_pages : (count a n : ℕ) → Ordered (λ (p : Place). p) (flat_map (λ page. map (at_place page) (range_with_len 0 count)) (range_with_len a n))
ordered_pages count a zero = tt
ordered_pages count a (suc n) =
    ordered_append (λ (p : Place). p) (map (at_place a) (range_with_len 0 count)) (flat_map (λ page. map (at_place page) (range_with_len 0 count)) (range_with_len (a + 1) n))
    (ordered_slots a 0 count) (ordered_pages count (a + 1) n) (λ x y m k.
    let first = slot_within a 0 count x m in
    let later = page_within count (a + 1) n y k in
    let e : x.page ≡ a = first.0 in
    let l : a + 1 ≤ y.page = later.0 in
    inl (omega arith))

-- a place that is listed stands within the die
pub listed_within : (g : Geometry) (place : Place) → Member place (places g) → (place.page < page_count g) × (place.slot < g.generations)
listed_within g place m =
    let w = page_within g.generations 0 (page_count g) place m in
    (let l : place.page < 0 + page_count g = w.1 in omega arith, w.2)

-- ---- headers

pub placed_parts : (place : Place) (o : Option Header) (x : Placed) → placed_in place o ≡ Some x → (x.place ≡ place) × (o ≡ Some x.header)
placed_parts place None x e = absurd (none-some x e)
placed_parts place (Some h) x e =
    let same = same_Some (record { place = place; header = h }) x e in
    (sym (ap (λ (y : Placed). y.place) same), ap (λ (y : Placed). Some y.header) same)

ordered_kept : (f : Place → Option Placed) → ((place : Place) (x : Placed) → f place ≡ Some x → x.place ≡ place) → (xs : List Place) → Ordered (λ (p : Place). p) xs
    → Ordered (λ (x : Placed). x.place) (filter_map f xs)
ordered_kept f there [] h = tt
ordered_kept f there (p ∷ ps) h = at (ordered_kept f there ps h.1) (f p) refl
  where
    at : Ordered (λ (x : Placed). x.place) (filter_map f ps) → (o : Option Placed) → f p ≡ o → Ordered (λ (x : Placed). x.place) (cons_option o (filter_map f ps))
    at rest None e = rest
    at rest (Some x) e = (
      λ y m. (let k = member_kept f y ps m in subst (λ (q : Place). Before q y.place) (sym (there p x e)) (subst (Before p) (sym (there k.0 y k.2)) (h.0 k.0 k.1))),
      rest,
    )

ordered_headers : (g : Geometry) (cells : List (List ℕ)) → Ordered (λ (x : Placed). x.place) (headers g cells)
unfolding headers
ordered_headers g cells =
    ordered_kept (λ place. placed_in place (header_in g cells place)) (λ place x e. (placed_parts place (header_in g cells place) x e).0) (places g) (ordered_pages g.generations 0 (page_count g))

later_apart : (xs : List Placed) (a b : Placed) (rest : List Placed) → Ordered (λ (x : Placed). x.place) (xs ++ a ∷ rest) → Member b rest → a.place ≡ b.place → ⊥
later_apart [] a b rest h m same = elim (h.0 b m) [
  | inl page ↦ (let e : a.place.page ≡ b.place.page = ap (λ (p : Place). p.page) same in absurd (omega arith))
  | inr slot ↦ (let e : a.place.slot ≡ b.place.slot = ap (λ (p : Place). p.slot) same in let l : a.place.slot < b.place.slot = slot.1 in absurd (omega arith))
]
later_apart (x ∷ xs) a b rest h m same = later_apart xs a b rest h.1 m same

-- a later header stands in another slot
pub headers_apart : (g : Geometry) (cells : List (List ℕ)) (before : List Placed) (a b : Placed) (rest : List Placed) → headers g cells ≡ before ++ a ∷ rest → Member b rest → a.place ≡ b.place → ⊥
headers_apart g cells before a b rest split m same = later_apart before a b rest (subst (λ (hs : List Placed). Ordered (λ (x : Placed). x.place) hs) split (ordered_headers g cells)) m same

-- a header of the list is one of the die
pub header_listed : (g : Geometry) (cells : List (List ℕ)) (x : Placed) → Member x (headers g cells) → header_in g cells x.place ≡ Some x.header
unfolding headers
header_listed g cells x m =
    let k = member_kept (λ place. placed_in place (header_in g cells place)) x (places g) m in
    let p = placed_parts k.0 (header_in g cells k.0) x k.2 in
    ap (header_in g cells) p.0 ∙ p.1
