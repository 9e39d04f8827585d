-- The newest of a list of records is one of them, and no other is newer.
use Rattle.std.proofs.Common.{◌≡◌, ◌⊎◌, inl, inr, ◌<◌, Bool, true, false, List, [], ◌∷◌, if◌then◌else◌, Option, Some, None, refl, sym, ap, ◌∙◌, arith, subst}
use Rattle.std.specs.List.{fold, filter_map, cons_option}
use Rattle.std.proofs.lemmas.Bool.{false≢true}
use Rattle.std.proofs.lemmas.Bool.Decides.{nat_tests}
use Rattle.std.proofs.lemmas.Option.{same_Some, none-some}
use Rattle.page_codec.specs.Records.{Placed, is_newer, newest}

-- x is in the list
abbrev pub Member : {X : Type 0} → X → List X → Type 0
Member x [] = ⊥
Member x (y ∷ ys) = (x ≡ y) ⊎ Member x ys

member_cons : {X Y : Type 0} (f : X → Option Y) (y : Y) (x : X) (xs : List X) (ys : List Y) → (Member y ys → (z : X) × Member z xs × (f z ≡ Some y)) → (o : Option Y) → f x ≡ o
    → Member y (cons_option o ys) → (z : X) × Member z (x ∷ xs) × (f z ≡ Some y)
member_cons f y x xs ys rest None e m = let h = rest m in (h.0, inr h.1, h.2)
member_cons f y x xs ys rest (Some w) e m = elim m [ inl same ↦ (x, inl refl, e ∙ ap Some (sym same)) | inr n ↦ (let h = rest n in (h.0, inr h.1, h.2)) ]

pub member_kept : {X Y : Type 0} (f : X → Option Y) (y : Y) (xs : List X) → Member y (filter_map f xs) → (x : X) × Member x xs × (f x ≡ Some y)
member_kept f y [] m = absurd m
member_kept f y (x ∷ xs) m = member_cons f y x xs (filter_map f xs) (member_kept f y xs) (f x) refl m

kept_cons : {X Y : Type 0} (f : X → Option Y) (x : X) (y : Y) (z : X) (zs : List X) (ys : List Y) → (Member x zs → Member y ys) → f x ≡ Some y → (o : Option Y) → f z ≡ o → (x ≡ z) ⊎ Member x zs
    → Member y (cons_option o ys)
kept_cons f x y z zs ys rest e None h m = elim m [ inl same ↦ absurd (none-some y (sym h ∙ (ap f (sym same) ∙ e))) | inr n ↦ rest n ]
kept_cons f x y z zs ys rest e (Some w) h m = elim m [ inl same ↦ inl (same_Some y w (sym e ∙ (ap f same ∙ h))) | inr n ↦ inr (rest n) ]

pub kept_member : {X Y : Type 0} (f : X → Option Y) (x : X) (y : Y) (xs : List X) → Member x xs → f x ≡ Some y → Member y (filter_map f xs)
kept_member f x y [] m e = absurd m
kept_member f x y (z ∷ zs) m e = kept_cons f x y z zs (filter_map f zs) (λ n. kept_member f x y zs n e) e (f z) refl m

-- ---- is_newer is a strict order, total on records in different slots

newer : Placed → Placed → Type 0
newer a b = (b.header.seq < a.header.seq) ⊎ ((a.header.seq ≡ b.header.seq) × ((a.place.page < b.place.page) ⊎ ((a.place.page ≡ b.place.page) × (b.place.slot < a.place.slot))))

pub newer_asym : (a b : Placed) → is_newer a b ≡ true → is_newer b a ≡ false
newer_asym a b h = grind (arith, nat_tests)

pub newer_trans : (a b c : Placed) → is_newer a b ≡ false → is_newer b c ≡ false → is_newer a c ≡ false
newer_trans a b c h k = grind (arith, nat_tests)

-- neither newer: one seq and one slot
pub same_place : (a b : Placed) → is_newer a b ≡ false → is_newer b a ≡ false → (a.header.seq ≡ b.header.seq) × (a.place.page ≡ b.place.page) × (a.place.slot ≡ b.place.slot)
same_place a b h k = (grind (arith, nat_tests), grind (arith, nat_tests), grind (arith, nat_tests))

-- the newest from a on: it is a or one of xs, and neither a nor any of xs is newer
abbrev pick : Placed → Placed → Placed
pick a b = if is_newer b a then b else a

record IsNewestOf (a : Placed) (xs : List Placed) (r : Placed) : Type 0 where
  one : (r ≡ a) ⊎ Member r xs
  first : is_newer a r ≡ false
  each : (x : Placed) → Member x xs → is_newer x r ≡ false

irreflexive : (a : Placed) → is_newer a a ≡ false
irreflexive a = grind (arith, nat_tests)

newest_cons : (a x : Placed) (xs : List Placed) (r : Placed) (t : Bool) → is_newer x a ≡ t → IsNewestOf (if t then x else a) xs r → IsNewestOf a (x ∷ xs) r
newest_cons a x xs r true e h = record {
  one = elim h.one [ inl same ↦ inr (inl same) | inr m ↦ inr (inr m) ];
  first = newer_trans a x r (newer_asym x a e) h.first;
  each = λ y m. elim m [ inl same ↦ subst (λ z. is_newer z r ≡ false) (sym same) h.first | inr n ↦ h.each y n ];
}
newest_cons a x xs r false e h = record {
  one = elim h.one [ inl same ↦ inl same | inr m ↦ inr (inr m) ];
  first = h.first;
  each = λ y m. elim m [ inl same ↦ subst (λ z. is_newer z r ≡ false) (sym same) (newer_trans x a r e h.first) | inr n ↦ h.each y n ];
}

newest_from : (a : Placed) (xs : List Placed) → IsNewestOf a xs (fold pick a xs)
newest_from a [] = record { one = inl refl; first = irreflexive a; each = λ x m. absurd m }
newest_from a (x ∷ xs) = newest_cons a x xs (fold pick a (x ∷ xs)) (is_newer x a) refl (newest_from (pick a x) xs)

-- what the newest record of a list is
pub record IsNewest (xs : List Placed) (r : Placed) : Type 0 where
  pub one : Member r xs
  pub each : (x : Placed) → Member x xs → is_newer x r ≡ false

pub newest_some : (xs : List Placed) (r : Placed) → newest xs ≡ Some r → IsNewest xs r
unfolding newest
newest_some [] r e = absurd (none-some r e)
newest_some (a ∷ xs) r e =
    let h = newest_from a xs in
    let same : fold pick a xs ≡ r = same_Some _ r e in
    record {
      one = elim h.one [ inl first ↦ inl (sym same ∙ first) | inr m ↦ inr (subst (λ z. Member z xs) same m) ];
      each = λ x m. subst (λ z. is_newer x z ≡ false) same (elim m [ inl first ↦ subst (λ z. is_newer z (fold pick a xs) ≡ false) (sym first) h.first | inr n ↦ h.each x n ]);
    }

-- there is one where the list is not empty
pub newest_of : (x : Placed) (xs : List Placed) → Member x xs → (r : Placed) × (newest xs ≡ Some r)
unfolding newest
newest_of x [] m = absurd m
newest_of x (a ∷ xs) m = (fold pick a xs, refl)

-- a record of the list that is newer than each other one is the newest
pub newest_is : (xs : List Placed) (r : Placed) → Member r xs → ((x : Placed) → Member x xs → (x ≡ r) ⊎ (is_newer r x ≡ true)) → newest xs ≡ Some r
newest_is xs r m f =
    let q = newest_of r xs m in
    let h = newest_some xs q.0 q.1 in
    elim (f q.0 h.one) [ inl same ↦ q.1 ∙ ap Some same | inr newer ↦ absurd (false≢true (sym (h.each r m) ∙ newer)) ]
