-- What a call of the inner die that leaves the table as it was leaves of the die: each logical page goes with the page at its
-- place, and no logical block moves.
use Rattle.std.proofs.Common.{◌≡◌, ℕ, ◌+◌, ◌*◌, ◌/◌, ◌%◌, ◌<◌, ◌≤◌, List, [], refl, ap, sym, ◌∙◌, arith, ◌∷◌, ◌++◌, ⊎_elim}
use Rattle.std.proofs.lemmas.Bool.{cases_lt}
use Rattle.cell_die.specs.declared.shape.Shape.{Shape}
use Rattle.cell_die.specs.Cells.{IsAbove}
use Rattle.cell_die.specs.DieState.{DieState, IsShaped, page_of}
use Rattle.cell_die.specs.Changes.{OnlyPage, NeverFalls}
use Rattle.cell_die.specs.Calls.{Kept}
use Rattle.cell_die.proofs.Single.{page_above_never_falls}
use Rattle.spare_die.specs.Table.{home, HasHomes}
use Rattle.spare_die.specs.Spare.{Own, spare_state, spare_place, spare_shape}
use Rattle.spare_die.specs.Tallies.{OwnLater}
use Rattle.spare_die.specs.SpareLaws.{home-same, place_past_table, place_apart, page_of-spare, page_of-spare_past}

-- a call of the inner die that leaves the table and the erase counts as they were
pub record LeavesTable (inner new : DieState) (logical : ℕ) : Type 0 where
  pub shaped : IsShaped inner
  pub homes : HasHomes inner logical
  pub shape : new.shape ≡ inner.shape
  pub table : (page : ℕ) → page < inner.shape.pages → page_of new page ≡ page_of inner page

-- a place stays where the home of its block does
pub same_place : (inner new : DieState) (page : ℕ) → new.shape ≡ inner.shape → home new (page / inner.shape.pages) ≡ home inner (page / inner.shape.pages)
    → spare_place new page ≡ spare_place inner page
same_place inner new page shape same =
    ap (λ (shape : Shape). home new (page / shape.pages) * shape.pages + page % shape.pages) shape
    ∙ ap (λ at. at * inner.shape.pages + page % inner.shape.pages) same

pub place-same : {inner new : DieState} {logical : ℕ} (page : ℕ) → LeavesTable inner new logical → spare_place new page ≡ spare_place inner page
place-same {inner} {new} {logical} page leaves = same_place inner new page leaves.shape (home-same inner new (page / inner.shape.pages) leaves.shape leaves.table)

-- homes stay homes
pub homes_along : {inner new : DieState} {logical : ℕ} → HasHomes inner logical → new.shape ≡ inner.shape → ((block : ℕ) → home new block ≡ home inner block) → HasHomes new logical
homes_along {inner} {new} {logical} homes shape same = record {
  room = rw shape homes.room;
  few_blocks = rw shape homes.few_blocks;
  few_pages = rw shape homes.few_pages;
  gate = rw shape homes.gate;
  inside = λ block below. rw (same block, shape) (homes.inside block below);
  past_table = λ block below. rw (same block) (homes.past_table block below);
  apart = λ block other below below' e. homes.apart block other below below' (sym (same block) ∙ (e ∙ same other));
}

pub homes_stay : {inner new : DieState} {logical : ℕ} → LeavesTable inner new logical → HasHomes new logical
homes_stay {inner} {new} {logical} leaves = homes_along leaves.homes leaves.shape (λ block. home-same inner new block leaves.shape leaves.table)

-- a program or charge of a logical page leaves the table as it was
pub leaves_table : {inner new : DieState} {logical : ℕ} (page : ℕ) → IsShaped inner → HasHomes inner logical → new.shape ≡ inner.shape
    → page < logical * inner.shape.pages → OnlyPage (spare_place inner page) inner new → LeavesTable inner new logical
leaves_table {inner} {new} {logical} page shaped homes shape below only = record {
  shaped = shaped;
  homes = homes;
  shape = shape;
  table = λ table inside. only.others table (λ same. absurd (omega (arith, place_past_table inner logical page shaped.some_pages homes below)));
}

-- what relates pages before and after relates logical pages
pub pages_along : {inner new : DieState} {logical : ℕ} (R : List ℕ → List ℕ → Type 0) (own own' : Own) → LeavesTable inner new logical → R [] [] → (page : ℕ)
    → (page < logical * inner.shape.pages → R (page_of inner (spare_place inner page)) (page_of new (spare_place inner page)))
    → R (page_of (spare_state inner logical own) page) (page_of (spare_state new logical own') page)
pages_along {inner} {new} {logical} R own own' leaves none page some = ⊎_elim
    (λ below. let below' : page < logical * new.shape.pages = rw leaves.shape below in
    rw (page_of-spare inner logical own page below, page_of-spare new logical own' page below', place-same page leaves) (some below))
    (λ past. let past' : logical * new.shape.pages ≤ page = rw leaves.shape past in
    rw (page_of-spare_past inner logical own page past, page_of-spare_past new logical own' page past') none)
    (cases_lt page (logical * inner.shape.pages))

pub only_page_spare : {inner new : DieState} {logical : ℕ} (own own' : Own) (page : ℕ) → LeavesTable inner new logical → own'.erases ≡ own.erases
    → page < logical * inner.shape.pages → OnlyPage (spare_place inner page) inner new → OnlyPage page (spare_state inner logical own) (spare_state new logical own')
only_page_spare {inner} {new} {logical} own own' page leaves erases below only = record {
  others = λ other apart. pages_along (λ old new. new ≡ old) own own' leaves refl other
      (λ inside. only.others (spare_place inner other) (λ same. apart (place_apart inner logical other page leaves.shaped.some_pages leaves.homes inside below same)));
  erases = erases;
}

-- the page at its place, before and after
pub page_before : (inner : DieState) (logical : ℕ) (own : Own) (page : ℕ) → page < logical * inner.shape.pages → page_of (spare_state inner logical own) page ≡ page_of inner (spare_place inner page)
page_before inner logical own page below = page_of-spare inner logical own page below

pub page_after : {inner new : DieState} {logical : ℕ} (own : Own) (page : ℕ) → LeavesTable inner new logical → page < logical * inner.shape.pages
    → page_of (spare_state new logical own) page ≡ page_of new (spare_place inner page)
page_after {inner} {new} {logical} own page leaves below =
    let below' : page < logical * new.shape.pages = rw leaves.shape below in
    page_of-spare new logical own page below' ∙ ap (page_of new) (place-same page leaves)

same_fixed : (inner new : DieState) (own own' : Own) → new.shape ≡ inner.shape → new.fixed ≡ inner.fixed → OwnLater own own'
    → new.fixed ++ (new.shape.blocks ∷ own'.named_at_opening ∷ own'.pages_at_opening ∷ []) ≡ inner.fixed ++ (inner.shape.blocks ∷ own.named_at_opening ∷ own.pages_at_opening ∷ [])
same_fixed inner new own own' shape fixed later = rw (shape, fixed, later.named, later.pages) refl

-- never falls is said of the logical pages themselves, since an erase count of the inner die may stand still
pub kept_spare : {inner new : DieState} {logical : ℕ} (own own' : Own) → Kept inner new → OwnLater own own' → NeverFalls (spare_state inner logical own) (spare_state new logical own')
    → Kept (spare_state inner logical own) (spare_state new logical own')
kept_spare {inner} {new} {logical} own own' kept later falls = record {
  shape = ap (λ (shape : Shape). spare_shape shape logical) kept.shape;
  fixed = same_fixed inner new own own' kept.shape kept.fixed later;
  never_falls = falls;
  read_faults = omega (arith, kept.read_faults, later.read_faults);
  change_faults = omega (arith, kept.change_faults, later.change_faults);
}

-- a page that becomes one above the old one
pub kept_page : {inner new : DieState} {logical : ℕ} (own own' : Own) (page : ℕ) → LeavesTable inner new logical → OwnLater own own' → own'.erases ≡ own.erases → Kept inner new
    → page < logical * inner.shape.pages
    → OnlyPage (spare_place inner page) inner new → IsAbove (page_of new (spare_place inner page)) (page_of inner (spare_place inner page))
    → Kept (spare_state inner logical own) (spare_state new logical own')
kept_page {inner} {new} {logical} own own' page leaves later erases kept below only above =
    let above' : IsAbove (page_of (spare_state new logical own') page) (page_of (spare_state inner logical own) page)
    = rw (page_before inner logical own page below, page_after own' page leaves below) above in
    kept_spare own own' kept later (page_above_never_falls page (only_page_spare own own' page leaves erases below only) above')
