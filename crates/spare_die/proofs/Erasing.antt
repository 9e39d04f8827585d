-- What an erase of the home of a logical block leaves, before the block is moved.
use Rattle.std.proofs.Common.{◌≡◌, ◌⊎◌, ◌||◌, Bool, Result, Ok, Err, OnOk, OnErr, ℕ, ◌/◌, ◌<◌, ◌≤◌, true, false, length, refl, ap, sym, ◌∙◌, arith, ⊎_elim}
use Rattle.std.proofs.Math.Nat.{div-lt_iff_lt-mul}
use Rattle.std.proofs.lemmas.Bool.{false≢true}
use Rattle.std.proofs.lemmas.List.Sums.{count_by-le-length}
use Rattle.std.proofs.lemmas.List.FromFn.{length-range_with_len}
use Rattle.std.specs.Prelude.{is_err}
use Rattle.std.specs.List.{range_with_len}
use Rattle.cell_bits.proofs.Above.{above_refl}
use Rattle.cell_die.specs.declared.shape.DieFault.{DieFault}
use Rattle.cell_die.specs.declared.worn.Erased.{Erased}
use Rattle.cell_die.specs.declared.worn.Erased.TheVariants.{Clean, Bad}
use Rattle.cell_die.specs.Cells.{IsAbove}
use Rattle.cell_die.specs.Counts.{Rose, raised}
use Rattle.cell_die.specs.DieState.{DieState, IsShaped, page_of, page_bytes}
use Rattle.cell_die.specs.Changes.{SameCells, OnlyBlock, IsErased, ErasedInPart}
use Rattle.cell_die.specs.Calls.{Passed, ChangeFailed}
use Rattle.cell_die.proofs.CellLaws.{above_blank}
use Rattle.spare_die.specs.declared.book.Book.{Book}
use Rattle.spare_die.specs.declared.tally.Tally.{Tally}
use Rattle.spare_die.specs.Table.{home, HasHomes, is_used}
use Rattle.spare_die.specs.Book.{IsOrderly, IsCounted}
use Rattle.spare_die.specs.Tallies.{SameButErases, bad_after}
use Rattle.spare_die.specs.Entering.{ErasesHome}
use Rattle.spare_die.proofs.Calls.{LeavesTable, homes_stay}
use Rattle.spare_die.proofs.Facts.{LeavesFree, orderly_leaves, orderly_stopped, place_not_free}

-- the table is in the inner block 0
pub table_block : (pages page : ℕ) → 0 < pages → page < pages → page / pages < 1
table_block pages page some below = (div-lt_iff_lt-mul {k = pages} {x = page} {y = 1} some).1 (omega arith)

-- a logical block and its home
pub record HomeOf (inner : DieState) (logical block at : ℕ) : Type 0 where
  pub shaped : IsShaped inner
  pub homes : HasHomes inner logical
  pub inside : block < logical
  pub is : at ≡ home inner block

pub home_of : {inner : DieState} {logical block at : ℕ} → IsShaped inner → HasHomes inner logical → block < logical → at ≡ home inner block → HomeOf inner logical block at
home_of shaped homes inside is = record { shaped = shaped; homes = homes; inside = inside; is = is }

-- a call on the home moves no block, and leaves the free reserve blocks
module _ {inner new : DieState} {logical block at : ℕ} (of : HomeOf inner logical block at) (shape : new.shape ≡ inner.shape) (only : OnlyBlock at inner new) where
  home_free : LeavesFree inner new logical
  home_free = record {
    shaped = of.shaped;
    shape = shape;
    table = λ page below. only.pages page (λ same.
        absurd (omega (arith, table_block inner.shape.pages page of.shaped.some_pages below, of.homes.past_table block of.inside, of.is)));
    spares = λ spare page past inside free here. only.pages page (λ same.
        place_not_free inner logical spare block of.inside past free (sym of.is ∙ (sym same ∙ here)));
  }

  home_leaves : LeavesTable inner new logical
  home_leaves = record { shaped = of.shaped; homes = of.homes; shape = shape; table = home_free.table }

  -- the length of a page of the home
  home_page : (page : ℕ) → page / inner.shape.pages ≡ home inner block → length (page_of inner page) ≡ page_bytes inner.shape
  home_page page here =
      of.shaped.lengths page ((div-lt_iff_lt-mul {k = inner.shape.pages} {x = page} {y = inner.shape.blocks} of.shaped.some_pages).0 (rw here (of.homes.inside block of.inside)))

  erases_with : ((page : ℕ) → page / inner.shape.pages ≡ home inner block → IsAbove (page_of inner page) (page_of new page)) → ErasesHome inner new (home inner block)
  erases_with below = record { shape = shape; others = λ page apart. only.pages page (λ same. apart (same ∙ of.is)); below = below }

  pub erases_home : (result : Result Erased DieFault) → (result ≡ Ok Clean → IsErased at inner new) → (result ≡ Ok Bad → ErasedInPart at inner new)
      → OnErr result (SameCells inner new ⊎ ErasedInPart at inner new) → ErasesHome inner new (home inner block)
  erases_home (Ok Clean) clean bad failed = erases_with (λ page here.
      rw ((clean refl).blank page (here ∙ sym of.is)) (above_blank (page_of inner page) (page_bytes inner.shape) (home_page page here)))
  erases_home (Ok Bad) clean bad failed = erases_with (λ page here. (bad refl).below page (here ∙ sym of.is))
  erases_home (Err fault) clean bad failed = erases_with (λ page here. ⊎_elim
      (λ same. rw same.cells (above_refl (page_of inner page)))
      (λ part. part.below page (here ∙ sym of.is))
      failed)

-- few entries were written
pub few_written : {inner : DieState} {bad_erases logical : ℕ} {book : Book} {tally : Tally} → IsOrderly inner bad_erases logical book tally → tally.stopped ≡ false → tally.written ≤ 128
few_written {inner} {bad_erases} {logical} {book} {tally} o running =
    let counted : IsCounted inner logical tally = o.counted (λ stopped. absurd (false≢true (sym running ∙ stopped))) in
    omega (arith, counted.used, count_by-le-length (is_used inner) (range_with_len 0 inner.shape.pages), length-range_with_len 0 inner.shape.pages, o.homes.few_pages)

-- an erase of the home, with its faults and the count of erases that went bad
pub record HomeErase (result : Result Erased DieFault) (inner new : DieState) (bad_erases bad_erases' at : ℕ) : Type 0 where
  pub shape : new.shape ≡ inner.shape
  pub only : OnlyBlock at inner new
  pub passed : OnOk result (Passed 1 0 inner new)
  pub failed : OnErr result (ChangeFailed 1 0 inner new)
  pub clean : result ≡ Ok Clean → bad_erases' ≡ bad_erases
  pub bad : result ≡ Ok Bad → Rose bad_erases bad_erases'
  pub none : OnErr result (bad_erases' ≡ bad_erases)

-- an erase that answered Bad is counted
pub bad_counted : {inner : DieState} {bad_erases logical : ℕ} {book : Book} {tally counted : Tally} → IsOrderly inner bad_erases logical book tally → tally.stopped ≡ false
    → SameButErases tally counted
    → counted.written < raised counted.bad
bad_counted {inner} {bad_erases} {logical} {book} {tally} {counted} o running same =
    let few : tally.written ≤ 128 = few_written o running in
    omega (arith, o.written, same.written, same.bad)

-- the tally after the erase, and after its answer
abbrev pub answered : Result Erased DieFault → Tally → Tally
answered result counted = record counted { bad = bad_after result counted.bad; stopped = counted.stopped || is_err result }

same_table : {old new : Tally} {stopped : Bool} → SameButErases old new → stopped ≡ old.stopped → SameButErases old (record new { bad = old.bad; stopped = stopped })
same_table same stopped = record {
  blocks = same.blocks;
  read_faults = same.read_faults;
  change_faults = same.change_faults;
  bad = refl;
  written = same.written;
  named_at_opening = same.named_at_opening;
  pages_at_opening = same.pages_at_opening;
  stopped = stopped;
}

or_true : (b : Bool) → (b || true) ≡ true
or_true true = refl
or_true false = refl

-- what the die knows after it
pub orderly_answered : (result : Result Erased DieFault) {inner new : DieState} {bad_erases bad_erases' logical block at : ℕ} {book : Book} {tally counted : Tally}
    → IsOrderly inner bad_erases logical book tally
    → tally.stopped ≡ false → HomeOf inner logical block at → SameButErases tally counted → HomeErase result inner new bad_erases bad_erases' at → IsOrderly new bad_erases' logical book
    (answered result counted)
orderly_answered (Ok Clean) {inner} {new} {bad_erases} {bad_erases'} {logical} {block} {at} {book} {tally} {counted} o running of same call =
    let stopped : (counted.stopped || false) ≡ tally.stopped = ap (λ b. b || false) (same.stopped ∙ running) ∙ sym running in
    orderly_leaves o (home_free of call.shape call.only) call.passed.change_faults (same_table same stopped) (omega (arith, o.written, same.written, same.bad))
    (λ more. omega (arith, same.written, same.bad))
    (omega (arith, o.bad, same.bad, call.clean refl))
orderly_answered (Ok Bad) {inner} {new} {bad_erases} {bad_erases'} {logical} {block} {at} {book} {tally} {counted} o running of same call =
    let stopped : (counted.stopped || false) ≡ tally.stopped = ap (λ b. b || false) (same.stopped ∙ running) ∙ sym running in
    let strict : counted.written < raised counted.bad = bad_counted o running same in
    orderly_leaves o (home_free of call.shape call.only) call.passed.change_faults (same_table same stopped) (omega arith) (λ before. strict) (omega (arith, o.bad, same.bad, call.bad refl))
orderly_answered (Err fault) {inner} {new} {bad_erases} {bad_erases'} {logical} {block} {at} {book} {tally} {counted} o running of same call =
    orderly_stopped o (homes_stay (home_leaves of call.shape call.only)) call.shape call.failed.change_faults same.blocks (or_true counted.stopped)
    (omega (arith, o.written, same.written, same.bad)) (omega (arith, o.bad, same.bad, call.none)) (omega (arith, same.named_at_opening, same.written))
