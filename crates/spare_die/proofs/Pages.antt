-- What a call of the inner die on the place of a logical page leaves.
use Rattle.std.proofs.Common.{◌≡◌, ◌⊎◌, inl, inr, ℕ, ◌+◌, ◌*◌, ◌/◌, ◌^◌, ◌<◌, ◌≤◌, Bool, false, List, []}
use Rattle.std.proofs.Common.{◌∷◌, map, length, refl, ap, ap₂, sym, subst, ◌∙◌, arith, Result, Ok, Err, OnOk, OnErr, ⊎_elim}
use Rattle.std.specs.Prelude.{is_err}
use Rattle.std.specs.List.{range_with_len}
use Rattle.std.proofs.Math.Nat.{mul-le-mul}
use Rattle.std.proofs.lemmas.Result.{on_ok_weaker, on_err_weaker}
use Rattle.cell_die.specs.declared.shape.Shape.{Shape}
use Rattle.cell_die.specs.Cells.{IsAbove, page_at, charge}
use Rattle.cell_die.specs.Counts.{count_sum}
use Rattle.cell_die.specs.DieState.{DieState, IsShaped, page_of, page_bytes, page_count}
use Rattle.cell_die.specs.Changes.{SameCells, OnlyPage, IsBetween}
use Rattle.cell_die.specs.Calls.{Kept, Passed, ReadFailed, ChangeFailed}
use Rattle.cell_bits.proofs.Above.{above_refl}
use Rattle.cell_die.proofs.Single.{same_cells_never_fall}
use Rattle.cell_die.proofs.CellLaws.{charge_above}
use Rattle.spare_die.specs.declared.book.Book.{Book}
use Rattle.spare_die.specs.declared.tally.Tally.{Tally}
use Rattle.spare_die.specs.Table.{HasHomes}
use Rattle.spare_die.specs.Spare.{Own, spare_state, spare_place}
use Rattle.spare_die.specs.Tallies.{OwnLater}
use Rattle.spare_die.specs.Book.{IsOrderly}
use Rattle.spare_die.specs.SpareLaws.{place_inside, place_block, logical_inside}
use Rattle.spare_die.proofs.Calls.{LeavesTable, leaves_table, homes_stay, place-same, only_page_spare, page_before, page_after, kept_page, kept_spare}
use Rattle.spare_die.proofs.Facts.{LeavesFree, SameCounted, orderly_leaves, orderly_stopped, place_not_free}

-- a logical page and its place
pub record PlaceOf (inner : DieState) (logical page place : ℕ) : Type 0 where
  pub shaped : IsShaped inner
  pub homes : HasHomes inner logical
  pub below : page < logical * inner.shape.pages
  pub is : place ≡ spare_place inner page

pub place_of : {inner : DieState} {logical page place : ℕ} → IsShaped inner → HasHomes inner logical → page < logical * inner.shape.pages → place ≡ spare_place inner page
    → PlaceOf inner logical page place
place_of shaped homes below is = record { shaped = shaped; homes = homes; below = below; is = is }

pub in_die : {inner : DieState} {logical page place : ℕ} → PlaceOf inner logical page place → place < page_count inner.shape
in_die {inner} {logical} {page} {place} at = rw at.is (place_inside inner logical page at.shaped.some_pages at.homes at.below)

-- the page of the die is the page at its place
pub page_then : {inner : DieState} {logical page place : ℕ} (own : Own) → PlaceOf inner logical page place → page_of (spare_state inner logical own) page ≡ page_of inner place
page_then {inner} {logical} {page} {place} own at = page_before inner logical own page at.below ∙ ap (page_of inner) (sym at.is)

-- all that a change call says of one page of a die: R holds of its cells before and after, or S where it failed
pub record PageChange (R S : List ℕ → List ℕ → Type 0) (page : ℕ) {T E : Type 0} (result : Result T E) (old new : DieState) : Type 0 where
  pub did : OnOk result (R (page_of old page) (page_of new page))
  pub part : OnErr result (S (page_of old page) (page_of new page))
  pub only : OnlyPage page old new
  pub kept : Kept old new
  pub passed : OnOk result (Passed 1 0 old new)
  pub failed : OnErr result (ChangeFailed 1 0 old new)

-- a program, and a charge
abbrev pub Program : List ℕ → ℕ → {T E : Type 0} → Result T E → DieState → DieState → Type 0
Program target page result old new = PageChange (λ then now. now ≡ target) (λ then now. IsBetween then now target) page result old new

abbrev pub Charge : ℕ → ℕ → {T E : Type 0} → Result T E → DieState → DieState → Type 0
Charge cell page result old new = PageChange (λ then now. now ≡ charge then cell) (λ then now. (now ≡ then) ⊎ (now ≡ charge then cell)) page result old new

-- neither lets a cell fall
abbrev Rises : (List ℕ → List ℕ → Type 0) → (List ℕ → List ℕ → Type 0) → List ℕ → Type 0
Rises R S then = (now : List ℕ) → R then now ⊎ S then now → IsAbove now then

pub program_rises : {target then : List ℕ} → IsAbove target then → Rises (λ then now. now ≡ target) (λ then now. IsBetween then now target) then
program_rises above now said = ⊎_elim (λ is. rw is above) (λ part. part.above) said

pub charge_rises : {inner : DieState} {logical page place : ℕ} (cell : ℕ) → PlaceOf inner logical page place → cell < 8 * page_bytes inner.shape
    → Rises (λ then now. now ≡ charge then cell) (λ then now. (now ≡ then) ⊎ (now ≡ charge then cell)) (page_of inner place)
charge_rises {inner} {logical} {page} {place} cell at below now said =
    let long : length (page_of inner place) ≡ page_bytes inner.shape = at.shaped.lengths place (in_die at) in
    let up : IsAbove (charge (page_of inner place) cell) (page_of inner place) = charge_above (page_of inner place) cell (omega arith) in
    ⊎_elim (λ is. rw is up) (λ part. ⊎_elim (λ same. rw same (above_refl (page_of inner place))) (λ is. rw is up) part) said

-- a call on the place of a page moves no block, and leaves the free reserve blocks
module _ {inner new : DieState} {logical page place : ℕ} (at : PlaceOf inner logical page place) (shape : new.shape ≡ inner.shape) (only : OnlyPage place inner new) where
  only_place : OnlyPage (spare_place inner page) inner new
  only_place = subst (λ n. OnlyPage n inner new) at.is only

  page_leaves : LeavesTable inner new logical
  page_leaves = leaves_table page at.shaped at.homes shape at.below only_place

  page_free : LeavesFree inner new logical
  page_free = record {
    shaped = at.shaped;
    shape = shape;
    table = page_leaves.table;
    spares = λ block other past inside free here. only_place.others other (λ same.
        place_not_free inner logical block (page / inner.shape.pages) (logical_inside inner.shape.pages page logical at.shaped.some_pages at.below) past free
        (sym (place_block inner page at.shaped.some_pages) ∙ (ap (λ n. n / inner.shape.pages) (sym same) ∙ here)));
  }

-- the faults of calls of the inner die are those of the die, where its own counts stay
pub passed_spare : {inner new : DieState} {c r : ℕ} (own own' : Own) (logical changes reads : ℕ) → Passed c r inner new → own'.read_faults ≡ own.read_faults
    → own'.change_faults ≡ own.change_faults → Passed changes reads (spare_state inner logical own) (spare_state new logical own')
passed_spare own own' logical changes reads passed read_faults change_faults = record {
  read_faults = ap₂ count_sum passed.read_faults read_faults;
  change_faults = ap₂ count_sum passed.change_faults change_faults;
  failures = tt;
  changed = tt;
}

pub failed_spare : {inner new : DieState} {c r : ℕ} (own own' : Own) (logical changes reads : ℕ) → ChangeFailed c r inner new → own'.read_faults ≡ own.read_faults
    → own'.change_faults ≡ own.change_faults → ChangeFailed changes reads (spare_state inner logical own) (spare_state new logical own')
failed_spare own own' logical changes reads failed read_faults change_faults = record {
  read_faults = ap₂ count_sum failed.read_faults read_faults;
  change_faults = omega (arith, failed.change_faults, change_faults);
  failures = tt;
  cut = tt;
}

pub later_same : (own : Own) → OwnLater own own
later_same own = record { named = refl; pages = refl; read_faults = omega arith; change_faults = omega arith }

either : {T E P Q : Type 0} (result : Result T E) → OnOk result P → OnErr result Q → P ⊎ Q
either (Ok value) passed failed = inl passed
either (Err fault) passed failed = inr failed

-- so a change call of the page at its place is one of the page of the die
pub page_change : {R S : List ℕ → List ℕ → Type 0} {T E : Type 0} {result : Result T E} {inner new : DieState} {logical page place : ℕ} (own : Own) → PlaceOf inner logical page place
    → Rises R S (page_of inner place) → PageChange R S place result inner new → PageChange R S page result (spare_state inner logical own) (spare_state new logical own)
page_change {R} {S} {T} {E} {result} {inner} {new} {logical} {page} {place} own at rises call = record {
  did = rw (page_then own at, now) call.did;
  part = rw (page_then own at, now) call.part;
  only = only_page_spare own own page leaves refl at.below (only_place at call.kept.shape call.only);
  kept = kept_page own own page leaves (later_same own) refl call.kept at.below (only_place at call.kept.shape call.only)
      (subst (λ n. IsAbove (page_of new n) (page_of inner n)) at.is (rises (page_of new place) (either result call.did call.part)));
  passed = on_ok_weaker result (λ passed. passed_spare own own logical 1 0 passed refl refl) call.passed;
  failed = on_err_weaker result (λ failed. failed_spare own own logical 1 0 failed refl refl) call.failed;
} where
  leaves : LeavesTable inner new logical
  leaves = page_leaves at call.kept.shape call.only

  now : page_of (spare_state new logical own) page ≡ page_of new place
  now = page_after own page leaves at.below ∙ ap (page_of new) (sym at.is)

-- what the die knows after it: it has stopped where the call failed
same_tally : (tally : Tally) (stopped : Bool) → stopped ≡ tally.stopped → SameCounted tally (record tally { stopped = stopped })
same_tally tally stopped same = record { blocks = refl; read_faults = refl; change_faults = refl; bad = refl; written = refl; named_at_opening = refl; pages_at_opening = refl; stopped = same }

pub orderly_passed : {inner new : DieState} {bad_erases bad_erases' logical : ℕ} {book : Book} {tally : Tally} (stopped : Bool) → stopped ≡ tally.stopped
    → IsOrderly inner bad_erases logical book tally → LeavesFree inner new logical → new.change_faults ≡ inner.change_faults → bad_erases' ≡ bad_erases
    → IsOrderly new bad_erases' logical book (record tally { stopped = stopped })
orderly_passed {inner} {new} {bad_erases} {bad_erases'} {logical} {book} {tally} stopped same o leaves faults bad =
    orderly_leaves o leaves faults (same_tally tally stopped same) o.written (λ more. more) (omega (arith, o.bad))

pub orderly_called : {R S : List ℕ → List ℕ → Type 0} {T E : Type 0} (result : Result T E) {stopped : Bool} {inner new : DieState}
    {bad_erases bad_erases' logical page place : ℕ} {book : Book} {tally : Tally}
    → stopped ≡ is_err result → IsOrderly inner bad_erases logical book tally → tally.stopped ≡ false → PlaceOf inner logical page place → PageChange R S place result inner new
    → bad_erases' ≡ bad_erases → IsOrderly new bad_erases' logical book (record tally { stopped = stopped })
orderly_called (Ok value) {stopped} is o running at call bad = orderly_passed stopped (is ∙ sym running) o (page_free at call.kept.shape call.only) call.passed.change_faults bad
orderly_called (Err fault) is o running at call bad =
    orderly_stopped o (homes_stay (page_leaves at call.kept.shape call.only)) call.kept.shape call.failed.change_faults refl is o.written (omega (arith, o.bad)) (omega arith)

-- ---- a read

map_same : (f g : ℕ → List ℕ) (xs : List ℕ) → ((x : ℕ) → f x ≡ g x) → map f xs ≡ map g xs
map_same f g [] same = refl
map_same f g (x ∷ xs) same = ap₂ (λ (y : List ℕ) (ys : List (List ℕ)). y ∷ ys) (same x) (map_same f g xs same)

-- a read of the inner die changes no cell
module _ {inner new : DieState} {logical : ℕ} (shaped : IsShaped inner) (homes : HasHomes inner logical) (kept : Kept inner new) (same : SameCells inner new) where
  same_page : (page : ℕ) → page_of new page ≡ page_of inner page
  same_page page = ap (λ (cells : List (List ℕ)). page_at cells page) same.cells

  read_leaves : LeavesTable inner new logical
  read_leaves = record { shaped = shaped; homes = homes; shape = kept.shape; table = λ page below. same_page page }

  pub read_free : LeavesFree inner new logical
  read_free = record { shaped = shaped; shape = kept.shape; table = λ page below. same_page page; spares = λ block page past inside free here. same_page page }

  pub same_cells_read : (own : Own) → SameCells (spare_state inner logical own) (spare_state new logical own)
  same_cells_read own = record {
    cells = ap (λ (shape : Shape). map (λ page. page_of new (spare_place new page)) (range_with_len 0 (logical * shape.pages))) kept.shape
        ∙ map_same (λ page. page_of new (spare_place new page)) (λ page. page_of inner (spare_place inner page)) (range_with_len 0 (logical * inner.shape.pages))
        (λ page. ap (page_of new) (place-same page read_leaves) ∙ same_page (spare_place inner page));
    erases = refl;
  }

  pub kept_read : (own : Own) → Kept (spare_state inner logical own) (spare_state new logical own)
  kept_read own = kept_spare own own kept (later_same own) (same_cells_never_fall (same_cells_read own))

-- a place is a number of 32 bits
pub place_fits : (at pages rest : ℕ) → at < 1024 → pages ≤ 128 → rest < pages → at * pages + rest < 2 ^ 32
place_fits at pages rest few narrow within =
    let few' : at ≤ 1024 = omega arith in
    let bound : at * pages ≤ 1024 * 128 = mul-le-mul few' narrow in
    omega arith

-- a read fails no change call
pub same_changes : (inner new : DieState) {T E : Type 0} (result : Result T E) → OnOk result (Passed 0 1 inner new) → OnErr result (ReadFailed 0 1 inner new) → new.change_faults ≡ inner.change_faults
same_changes inner new (Ok value) passed failed = passed.change_faults
same_changes inner new (Err fault) passed failed = failed.change_faults
