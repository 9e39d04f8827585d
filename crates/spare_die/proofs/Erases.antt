-- What an erase leaves, however it ends: the inner block of its logical block and the table may change, and no other logical
-- block moves or changes.
use Rattle.std.proofs.Common.{◌≡◌, ◌≢◌, ℕ, ◌+◌, ◌*◌, ◌/◌, ◌%◌, ◌<◌, ◌≤◌, ap, sym, ◌∙◌, arith, ⊎_elim}
use Rattle.std.proofs.lemmas.Bool.{cases_lt}
use Rattle.std.proofs.Math.Nat.{div-lt_iff_lt-mul}
use Rattle.cell_die.specs.declared.shape.Shape.{Shape}
use Rattle.cell_die.specs.Cells.{IsAbove, blank_page}
use Rattle.cell_die.specs.DieState.{DieState, page_of, page_bytes}
use Rattle.cell_die.specs.Changes.{OnlyBlock, IsErased, ErasedInPart}
use Rattle.cell_die.specs.Calls.{Kept}
use Rattle.cell_die.proofs.Single.{block_rose_never_falls}
use Rattle.spare_die.specs.Table.{home}
use Rattle.spare_die.specs.Spare.{Own, spare_state, spare_place}
use Rattle.spare_die.specs.SpareLaws.{place_block, place_past_table, page_of-spare, page_of-spare_past, logical_inside}
use Rattle.spare_die.specs.Tallies.{OwnLater, CountsUp}
use Rattle.spare_die.specs.Entering.{Renews}
use Rattle.spare_die.proofs.Calls.{kept_spare, same_place}

-- what an erase of a logical block does to the inner die and to the counts
pub record Erasure (inner new : DieState) (logical block : ℕ) (own own' : Own) : Type 0 where
  pub renews : Renews inner new logical block
  pub kept : Kept inner new
  pub counts : CountsUp block own own'
  pub later : OwnLater own own'

module _ {inner new : DieState} {logical block : ℕ} {own own' : Own} (erasure : Erasure inner new logical block own own') where
  renews : Renews inner new logical block
  renews = erasure.renews

  -- the place of a page of another block stays
  place_of_other : (page : ℕ) → page / inner.shape.pages ≢ block → spare_place new page ≡ spare_place inner page
  place_of_other page apart = same_place inner new page renews.shape (renews.others (page / inner.shape.pages) apart)

  pub only_block_spare : OnlyBlock block (spare_state inner logical own) (spare_state new logical own')
  only_block_spare = record {
    pages = λ page apart. ⊎_elim
        (λ below. let below' : page < logical * new.shape.pages = rw renews.shape below in
        page_of-spare new logical own' page below'
        ∙ (ap (page_of new) (place_of_other page apart)
        ∙ (renews.pages (spare_place inner page) (place_past_table inner logical page renews.shaped.some_pages renews.homes below)
        (λ same. apart (renews.homes.apart (page / inner.shape.pages) block (logical_inside inner.shape.pages page logical renews.shaped.some_pages below) renews.inside
        (sym (place_block inner page renews.shaped.some_pages) ∙ same)))
        ∙ sym (page_of-spare inner logical own page below))))
        (λ past. let past' : logical * new.shape.pages ≤ page = rw renews.shape past in
        page_of-spare_past new logical own' page past' ∙ sym (page_of-spare_past inner logical own page past))
        (cases_lt page (logical * inner.shape.pages));
    counts = erasure.counts.others;
  }

  -- the pages of the block
  pub in_block : (page : ℕ) → page / inner.shape.pages ≡ block → page < logical * inner.shape.pages
  in_block page here = (div-lt_iff_lt-mul {k = inner.shape.pages} {x = page} {y = logical} renews.shaped.some_pages).0 (rw here renews.inside)

  place_of_page : (page : ℕ) → page / inner.shape.pages ≡ block → spare_place new page / inner.shape.pages ≡ home new block
  place_of_page page here =
      ap (λ (shape : Shape). spare_place new page / shape.pages) (sym renews.shape)
      ∙ (place_block new page (rw renews.shape renews.shaped.some_pages)
      ∙ ap (home new) (ap (λ (shape : Shape). page / shape.pages) renews.shape ∙ here))

  -- the block's cells are those of its home, before and after
  pub is_erased_spare : ((page : ℕ) → page / inner.shape.pages ≡ home new block → page_of new page ≡ blank_page (page_bytes inner.shape))
      → IsErased block (spare_state inner logical own) (spare_state new logical own')
  is_erased_spare blank = record {
    blank = λ page here.
        let below : page < logical * new.shape.pages = rw renews.shape (in_block page here) in
        page_of-spare new logical own' page below ∙ blank (spare_place new page) (place_of_page page here);
    count = erasure.counts.here;
  }

  pub in_part_spare : ((page : ℕ) → page / inner.shape.pages ≡ block → IsAbove (page_of inner (spare_place inner page)) (page_of new (spare_place new page)))
      → ErasedInPart block (spare_state inner logical own) (spare_state new logical own')
  in_part_spare below_old = record {
    below = λ page here.
        let below : page < logical * new.shape.pages = rw renews.shape (in_block page here) in
        rw (page_of-spare inner logical own page (in_block page here), page_of-spare new logical own' page below) (below_old page here);
    count = erasure.counts.here;
  }

  pub kept_erase : Kept (spare_state inner logical own) (spare_state new logical own')
  kept_erase = kept_spare own own' erasure.kept erasure.later (block_rose_never_falls block only_block_spare (omega (arith, erasure.counts.here)) erasure.counts.higher)
