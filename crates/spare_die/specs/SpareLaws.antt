-- Laws of the places of logical pages: different pages have different places, all in the inner die and none in the table.
use Rattle.std.proofs.Common.{◌≡◌, ℕ, zero, suc, ◌+◌, ◌*◌, ◌/◌, ◌%◌, ◌<◌, ◌≤◌, List, [], length, refl, ap, ap₂, sym, ◌∙◌, arith, ⊎_elim}
use Rattle.std.specs.Prelude.{All, if◌then◌else◌}
use Rattle.std.proofs.Math.Nat.{div-lt_iff_lt-mul, mul-le-mul_right}
use Rattle.std.proofs.lemmas.Nat.{div-mul-add, mod-mul-add, div-add-mod'}
use Rattle.std.proofs.lemmas.Bool.{cases_lt}
use Rattle.std.proofs.lemmas.List.{get_or_past}
use Rattle.std.proofs.lemmas.List.FromFn.{get_or-map-range_with_len, length-map-range_with_len}
use Rattle.cell_die.specs.declared.shape.Shape.{Shape}
use Rattle.cell_die.specs.DieState.{DieState, IsShaped, page_of, page_count}
use Rattle.spare_die.specs.Table.{home, home_up_to, is_entry_for, inner_of, HasHomes}
use Rattle.spare_die.specs.Spare.{Own, spare_state, spare_place}

-- homes go by the table pages alone
pub home_up_to-same : (inner new : DieState) (block count : ℕ) → ((table : ℕ) → table < count → page_of new table ≡ page_of inner table)
    → home_up_to new block count ≡ home_up_to inner block count
unfolding home_up_to
home_up_to-same inner new block zero same = refl
home_up_to-same inner new block (suc count) same =
    ap₂ (λ (page : List ℕ) (rest : ℕ). if is_entry_for block page then inner_of page else rest) (same count (omega arith))
    (home_up_to-same inner new block count (λ table below. same table (omega arith)))

pub home-same : (inner new : DieState) (block : ℕ) → new.shape ≡ inner.shape → ((table : ℕ) → table < inner.shape.pages → page_of new table ≡ page_of inner table)
    → home new block ≡ home inner block
home-same inner new block shape same =
    ap (λ (shape : Shape). home_up_to new block shape.pages) shape ∙ home_up_to-same inner new block inner.shape.pages same

-- the block of a logical page
pub logical_inside : (pages page logical : ℕ) → 0 < pages → page < logical * pages → page / pages < logical
logical_inside pages page logical some below = (div-lt_iff_lt-mul {k = pages} {x = page} {y = logical} some).1 below

pub place_block : (inner : DieState) (page : ℕ) → 0 < inner.shape.pages → spare_place inner page / inner.shape.pages ≡ home inner (page / inner.shape.pages)
place_block inner page some = div-mul-add (home inner (page / inner.shape.pages)) inner.shape.pages (page % inner.shape.pages) (omega arith)

pub place_rest : (inner : DieState) (page : ℕ) → 0 < inner.shape.pages → spare_place inner page % inner.shape.pages ≡ page % inner.shape.pages
place_rest inner page some = mod-mul-add (home inner (page / inner.shape.pages)) inner.shape.pages (page % inner.shape.pages) (omega arith)

-- places are in the inner die
pub place_inside : (inner : DieState) (logical page : ℕ) → 0 < inner.shape.pages → HasHomes inner logical → page < logical * inner.shape.pages
    → spare_place inner page < page_count inner.shape
place_inside inner logical page some homes below =
    let at : spare_place inner page / inner.shape.pages ≡ home inner (page / inner.shape.pages) = place_block inner page some in
    let inside : home inner (page / inner.shape.pages) < inner.shape.blocks = homes.inside (page / inner.shape.pages) (logical_inside inner.shape.pages page logical some below) in
    let fewer : spare_place inner page / inner.shape.pages < inner.shape.blocks = rw at inside in
    (div-lt_iff_lt-mul {k = inner.shape.pages} {x = spare_place inner page} {y = inner.shape.blocks} some).0 fewer

-- and not in the table
pub place_past_table : (inner : DieState) (logical page : ℕ) → 0 < inner.shape.pages → HasHomes inner logical → page < logical * inner.shape.pages
    → inner.shape.pages ≤ spare_place inner page
place_past_table inner logical page some homes below =
    let past : 1 ≤ home inner (page / inner.shape.pages) = homes.past_table (page / inner.shape.pages) (logical_inside inner.shape.pages page logical some below) in
    let step : 1 * inner.shape.pages ≤ home inner (page / inner.shape.pages) * inner.shape.pages = mul-le-mul_right inner.shape.pages past in
    omega arith

-- places tell logical pages apart
pub place_apart : (inner : DieState) (logical page other : ℕ) → 0 < inner.shape.pages → HasHomes inner logical → page < logical * inner.shape.pages
    → other < logical * inner.shape.pages → spare_place inner page ≡ spare_place inner other → page ≡ other
place_apart inner logical page other some homes below below' same =
    let pages : ℕ = inner.shape.pages in
    let home_same : home inner (page / inner.shape.pages) ≡ home inner (other / inner.shape.pages)
    = sym (place_block inner page some) ∙ (ap (λ n. n / inner.shape.pages) same ∙ place_block inner other some) in
    let block : page / inner.shape.pages ≡ other / inner.shape.pages
    = homes.apart _ _ (logical_inside inner.shape.pages page logical some below) (logical_inside inner.shape.pages other logical some below') home_same in
    let rest : page % inner.shape.pages ≡ other % inner.shape.pages
    = sym (place_rest inner page some) ∙ (ap (λ n. n % inner.shape.pages) same ∙ place_rest inner other some) in
    sym (div-add-mod' page inner.shape.pages)
    ∙ (ap₂ (λ (q r : ℕ). q * inner.shape.pages + r) block rest ∙ div-add-mod' other inner.shape.pages)

-- the logical pages
pub page_of-spare : (inner : DieState) (logical : ℕ) (own : Own) (page : ℕ) → page < logical * inner.shape.pages
    → page_of (spare_state inner logical own) page ≡ page_of inner (spare_place inner page)
page_of-spare inner logical own page below =
    get_or-map-range_with_len (λ page. page_of inner (spare_place inner page)) 0 (logical * inner.shape.pages) page page [] below (omega arith)

pub page_of-spare_past : (inner : DieState) (logical : ℕ) (own : Own) (page : ℕ) → logical * inner.shape.pages ≤ page → page_of (spare_state inner logical own) page ≡ []
page_of-spare_past inner logical own page past =
    get_or_past (spare_state inner logical own).cells page []
    (omega (arith, length-map-range_with_len (λ page. page_of inner (spare_place inner page)) 0 (logical * inner.shape.pages)))

no_bytes : All (λ byte. byte < 256) []
no_bytes = λ k d below. absurd (omega arith)

-- the die has the cells that its shape says
pub spare_shaped : (inner : DieState) (logical : ℕ) (own : Own) → IsShaped inner → HasHomes inner logical → length own.erases ≡ logical → IsShaped (spare_state inner logical own)
spare_shaped inner logical own shaped homes counts = record {
  some_pages = shaped.some_pages;
  pages = length-map-range_with_len (λ page. page_of inner (spare_place inner page)) 0 (logical * inner.shape.pages);
  blocks = counts;
  lengths = λ page below. rw (page_of-spare inner logical own page below)
      (shaped.lengths (spare_place inner page) (place_inside inner logical page shaped.some_pages homes below));
  bytes = λ page. ⊎_elim
      (λ below. rw (page_of-spare inner logical own page below) (shaped.bytes (spare_place inner page)))
      (λ past. rw (page_of-spare_past inner logical own page past) no_bytes)
      (cases_lt page (logical * inner.shape.pages));
}
