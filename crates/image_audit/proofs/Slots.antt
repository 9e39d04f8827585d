-- The slots before a place are a front of all slots, and grow slot by slot and page by page.
use Rattle.std.proofs.Common.{◌≡◌, ℕ, zero, suc, ◌+◌, ◌-◌, ◌<◌, List, [], ◌∷◌, ◌++◌, map, sym, ap, ap₂, ◌∙◌, arith, append_assoc}
use Rattle.std.specs.List.{flat_map, range_with_len}
use Rattle.std.proofs.lemmas.List.{append-nil, map-append}
use Rattle.std.proofs.lemmas.List.Concat.{flat_map-append}
use Rattle.std.proofs.lemmas.List.FromFn.{map-range_with_len_more}
use Rattle.page_codec.specs.declared.place.Place.{Place}
use Rattle.page_codec.specs.Geometry.{Geometry, page_count}
use Rattle.page_codec.specs.Records.{places}
use Rattle.image_audit.specs.Reading.{page_slots, slots_before}
use Rattle.image_audit.specs.Verdicts.{at_place}

range_parts : (a k n : ℕ) → range_with_len a (k + n) ≡ range_with_len a k ++ range_with_len (a + k) n
range_parts a zero n = ap₂ (λ (m c : ℕ). range_with_len m c) (let e : a ≡ a + 0 = omega arith in e) (let e : 0 + n ≡ n = omega arith in e)
range_parts a (suc k) n =
    ap (range_with_len a) (let e : suc k + n ≡ suc (k + n) = omega arith in e)
    ∙ ap (λ (xs : List ℕ). a ∷ xs) (range_parts (a + 1) k n ∙ ap (λ (m : ℕ). range_with_len (a + 1) k ++ range_with_len m n) (let e : a + 1 + k ≡ a + suc k = omega arith in e))

range_more : (n : ℕ) → range_with_len 0 (n + 1) ≡ range_with_len 0 n ++ n ∷ []
range_more n = range_parts 0 n 1 ∙ ap (λ (m : ℕ). range_with_len 0 n ++ m ∷ []) (let e : 0 + n ≡ n = omega arith in e)

range_split : (n k : ℕ) → k < n → range_with_len 0 n ≡ range_with_len 0 k ++ k ∷ range_with_len (k + 1) (n - k - 1)
range_split n k h =
    ap (range_with_len 0) (let e : n ≡ k + suc (n - k - 1) = omega arith in e)
    ∙ (range_parts 0 k (suc (n - k - 1))
    ∙ ap (λ (m : ℕ). range_with_len 0 k ++ m ∷ range_with_len (m + 1) (n - k - 1)) (let e : 0 + k ≡ k = omega arith in e))

pub slots_more : (g : Geometry) (page slot : ℕ) → slots_before g page (slot + 1) ≡ slots_before g page slot ++ at_place page slot ∷ []
slots_more g page slot =
    ap (λ (xs : List Place). flat_map (λ p. page_slots p g.generations) (range_with_len 0 page) ++ xs) (map-range_with_len_more (at_place page) 0 slot slot (omega arith))
    ∙ sym (append_assoc (flat_map (λ p. page_slots p g.generations) (range_with_len 0 page)) (page_slots page slot) (at_place page slot ∷ []))

pub page_more : (g : Geometry) (page : ℕ) → slots_before g page g.generations ≡ slots_before g (page + 1) 0
page_more g page =
    let f : ℕ → List Place = λ p. page_slots p g.generations in
    sym (append-nil (flat_map f (range_with_len 0 (page + 1)))
    ∙ (ap (flat_map f) (range_more page) ∙ (flat_map-append f (range_with_len 0 page) (page ∷ []) ∙ ap (λ (xs : List Place). flat_map f (range_with_len 0 page) ++ xs) (append-nil (f page)))))

pub all_slots : (g : Geometry) → slots_before g (page_count g) 0 ≡ places g
all_slots g = append-nil (places g)

-- the slots before a place, the place, and the slots after it
pub slots_split : (g : Geometry) (page slot : ℕ) → page < page_count g → slot < g.generations → (after : List Place) × (places g ≡ slots_before g page slot ++ at_place page slot ∷ after)
slots_split g page slot h k =
    let f : ℕ → List Place = λ p. page_slots p g.generations in
    let front : List Place = flat_map f (range_with_len 0 page) in
    let back : List Place = flat_map f (range_with_len (page + 1) (page_count g - page - 1)) in
    let rest : List Place = map (at_place page) (range_with_len (slot + 1) (g.generations - slot - 1)) in
    let page_is : f page ≡ page_slots page slot ++ at_place page slot ∷ rest =
    ap (map (at_place page)) (range_split g.generations slot k) ∙ map-append (at_place page) (range_with_len 0 slot) (slot ∷ range_with_len (slot + 1) (g.generations - slot - 1)) in (
      rest ++ back,
      ap (flat_map f) (range_split (page_count g) page h)
          ∙ (flat_map-append f (range_with_len 0 page) (page ∷ range_with_len (page + 1) (page_count g - page - 1))
          ∙ (ap (λ (xs : List Place). front ++ (xs ++ back)) page_is
          ∙ (ap (λ (xs : List Place). front ++ xs) (append_assoc (page_slots page slot) (at_place page slot ∷ rest) back)
          ∙ sym (append_assoc front (page_slots page slot) (at_place page slot ∷ rest ++ back))))),
    )
