-- The pages of a unit lie within the die, and its main bytes are those of its pages.
use Rattle.std.proofs.Common.{◌≡◌, ℕ, ◌+◌, ◌*◌, ◌/◌, ◌%◌, ◌<◌, ◌≤◌, true, List, ◌++◌, inl, inr, ap, ◌∙◌, arith}
use Rattle.std.specs.List.{flat_map, range_with_len}
use Rattle.std.proofs.Math.Nat.{mul-le-mul_right, div-lt_iff_lt-mul}
use Rattle.std.proofs.lemmas.Bool.{and_parts, or_cases, eqb-true, ltb-true}
use Rattle.std.proofs.lemmas.Nat.{div-add-mod'}
use Rattle.std.proofs.lemmas.List.{append-nil}
use Rattle.page_codec.specs.declared.place.Place.{Place}
use Rattle.page_codec.specs.Geometry.{Geometry, page_count, is_unit_page, main_at, unit_at}
use Rattle.page_codec.specs.Records.{may_hold}

pub unit_room : (g : Geometry) (page : ℕ) → 1 ≤ g.pages → 1 ≤ g.span → page < page_count g → is_unit_page g page ≡ true → page + g.span ≤ page_count g
unit_room g page some spans within unit =
    let p = and_parts _ _ unit in
    let r : ℕ = page % g.pages in
    let even : r % g.span ≡ 0 = eqb-true _ _ p.0 in
    let below : r / g.span < g.pages / g.span = ltb-true _ _ p.1 in
    let whole : r / g.span * g.span + r % g.span ≡ r = div-add-mod' r g.span in
    let all : g.pages / g.span * g.span + g.pages % g.span ≡ g.pages = div-add-mod' g.pages g.span in
    let room : (r / g.span + 1) * g.span ≤ g.pages / g.span * g.span = mul-le-mul_right g.span (let l : r / g.span + 1 ≤ g.pages / g.span = omega arith in l) in
    let inside : r + g.span ≤ g.pages = omega arith in
    let page_is : page / g.pages * g.pages + r ≡ page = div-add-mod' page g.pages in
    let block : page / g.pages < g.blocks = block_below in
    let blocks : (page / g.pages + 1) * g.pages ≤ g.blocks * g.pages = mul-le-mul_right g.pages (let l : page / g.pages + 1 ≤ g.blocks = omega arith in l) in
    omega arith
  where
    block_below : page / g.pages < g.blocks
    block_below = (div-lt_iff_lt-mul {x = page} some).1 within

pub unit_of_one : (g : Geometry) (cells : List (List ℕ)) (page : ℕ) → g.span ≡ 1 → unit_at g cells page ≡ main_at g cells page
unit_of_one g cells page one = ap (λ (n : ℕ). flat_map (main_at g cells) (range_with_len page n)) one ∙ append-nil (main_at g cells page)

pub unit_of_two : (g : Geometry) (cells : List (List ℕ)) (page : ℕ) → g.span ≡ 2 → unit_at g cells page ≡ main_at g cells page ++ main_at g cells (page + 1)
unit_of_two g cells page two =
    ap (λ (n : ℕ). flat_map (main_at g cells) (range_with_len page n)) two ∙ ap (λ (xs : List ℕ). main_at g cells page ++ xs) (append-nil (main_at g cells (page + 1)))

-- a record in a later slot has its whole unit on the die
pub slot_room : (g : Geometry) (place : Place) → 1 ≤ g.pages → 1 ≤ g.span → may_hold g place ≡ true → (place.slot ≡ 0 → ⊥) → place.page + g.span ≤ page_count g
slot_room g place some spans holds later =
    let p = and_parts _ _ holds in
    elim (or_cases _ _ p.1) [
      | inl zero_slot ↦ absurd (later (eqb-true place.slot 0 zero_slot))
      | inr more ↦ unit_room g place.page some spans (ltb-true _ _ p.0) (and_parts _ _ more).1
    ]
