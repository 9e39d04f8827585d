-- What an erase of a logical block leaves, step by step: its home is erased, and where that went bad, an entry moves the block.
use Rattle.std.proofs.Common.{◌≡◌, ◌⊎◌, inl, inr, ℕ, ◌+◌, ◌*◌, ◌/◌, ◌%◌, ◌<◌, ◌≤◌, length, ap, sym, ◌∙◌, arith}
use Rattle.std.proofs.Math.Nat.{div-lt_iff_lt-mul}
use Rattle.cell_die.specs.declared.shape.Shape.{Shape}
use Rattle.cell_die.specs.Cells.{IsAbove, blank_page}
use Rattle.cell_die.specs.DieState.{DieState, IsShaped, page_of, page_bytes}
use Rattle.cell_die.proofs.CellLaws.{above_blank}
use Rattle.spare_die.specs.Table.{home, HasHomes}
use Rattle.spare_die.specs.Spare.{Own, spare_place}
use Rattle.spare_die.specs.Tallies.{CountsUp, SameFaults, SameCounts}
use Rattle.spare_die.specs.Entering.{ErasesHome, ReplacesHome, IsBlankBlock}
use Rattle.spare_die.specs.SpareLaws.{home-same, place_block, place_inside, place_past_table}
use Rattle.cell_die.specs.Calls.{Kept}
use Rattle.cell_die.proofs.Sequences.{kept_trans}
use Rattle.spare_die.proofs.Calls.{same_place}
use Rattle.spare_die.proofs.Erases.{Erasure, in_block}
use Rattle.spare_die.proofs.Erasing.{table_block}

-- the home of a logical block was erased
pub record HomeErased (inner mid : DieState) (logical block : ℕ) (own own' : Own) : Type 0 where
  pub shaped : IsShaped inner
  pub homes : HasHomes inner logical
  pub inside : block < logical
  pub erases : ErasesHome inner mid (home inner block)
  pub kept : Kept inner mid
  pub counts : CountsUp block own own'
  pub same : SameFaults own own'

pub home_erased : {inner mid : DieState} {logical block : ℕ} {own own' : Own} → IsShaped inner → HasHomes inner logical → block < logical → ErasesHome inner mid (home inner block) → Kept inner mid
    → CountsUp block own own' → SameFaults own own' → HomeErased inner mid logical block own own'
home_erased shaped homes inside erases kept counts same = record { shaped = shaped; homes = homes; inside = inside; erases = erases; kept = kept; counts = counts; same = same }

-- a blank home in the words of the erase
pub blank_home : (inner new : DieState) (at : ℕ) → new.shape ≡ inner.shape → IsBlankBlock new at → (page : ℕ) → page / inner.shape.pages ≡ at → page_of new page ≡ blank_page (page_bytes inner.shape)
blank_home inner new at shape blank page here =
    blank page (ap (λ (shape : Shape). page / shape.pages) shape ∙ here) ∙ ap (λ (shape : Shape). blank_page (page_bytes shape)) shape

module _ {inner mid : DieState} {logical block : ℕ} {own own' : Own} (e : HomeErased inner mid logical block own own') where
  -- the table is in the inner block 0, and no home
  table_stays : (page : ℕ) → page < inner.shape.pages → page_of mid page ≡ page_of inner page
  table_stays page below = e.erases.others page (λ same.
      absurd (omega (arith, table_block inner.shape.pages page e.shaped.some_pages below, e.homes.past_table block e.inside)))

  home_stays : (other : ℕ) → home mid other ≡ home inner other
  home_stays other = home-same inner mid other e.erases.shape table_stays

  pub erasure_home : Erasure inner mid logical block own own'
  erasure_home = record {
    renews = record {
      shaped = e.shaped;
      homes = e.homes;
      shape = e.erases.shape;
      inside = e.inside;
      others = λ other apart. home_stays other;
      pages = λ page past apart. e.erases.others page apart;
    };
    kept = e.kept;
    counts = e.counts;
    later = record { named = e.same.named; pages = e.same.pages; read_faults = omega (arith, e.same.read_faults); change_faults = omega (arith, e.same.change_faults) };
  }

  -- a page of the block, and its places
  place_of_block : (page : ℕ) → page / inner.shape.pages ≡ block → spare_place inner page / inner.shape.pages ≡ home inner block
  place_of_block page here = place_block inner page e.shaped.some_pages ∙ ap (home inner) here

  -- the cells of the block lie below the old ones
  pub below_erased : (page : ℕ) → page / inner.shape.pages ≡ block → IsAbove (page_of inner (spare_place inner page)) (page_of mid (spare_place mid page))
  below_erased page here =
      rw (same_place inner mid page e.erases.shape (home_stays (page / inner.shape.pages))) (e.erases.below (spare_place inner page) (place_of_block page here))

  pub blank_erased : IsBlankBlock mid (home inner block) → (page : ℕ) → page / inner.shape.pages ≡ home mid block → page_of mid page ≡ blank_page (page_bytes inner.shape)
  blank_erased blank page here = blank_home inner mid (home inner block) e.erases.shape blank page (here ∙ home_stays block)

-- and then the block was moved, or could not be
pub record HomeReplaced (inner mid new : DieState) (logical block : ℕ) (own own' own'' : Own) : Type 0 where
  pub erased : HomeErased inner mid logical block own own'
  pub replaces : ReplacesHome mid new block
  pub kept : Kept mid new
  pub same : SameCounts own' own''

pub home_replaced : {inner mid new : DieState} {logical block : ℕ} {own own' own'' : Own} → HomeErased inner mid logical block own own' → ReplacesHome mid new block → Kept mid new
    → SameCounts own' own''
    → HomeReplaced inner mid new logical block own own' own''
home_replaced erased replaces kept same = record { erased = erased; replaces = replaces; kept = kept; same = same }

module _ {inner mid new : DieState} {logical block : ℕ} {own own' own'' : Own} (r : HomeReplaced inner mid new logical block own own' own'') where
  shape_replaced : new.shape ≡ inner.shape
  shape_replaced = r.replaces.shape ∙ r.erased.erases.shape

  pub counts_replaced : CountsUp block own own''
  counts_replaced = record {
    here = rw r.same.erases r.erased.counts.here;
    higher = rw r.same.erases r.erased.counts.higher;
    others = λ other apart. rw r.same.erases (r.erased.counts.others other apart);
  }

  pub erasure_replaced : Erasure inner new logical block own own''
  erasure_replaced = record {
    renews = record {
      shaped = r.erased.shaped;
      homes = r.erased.homes;
      shape = shape_replaced;
      inside = r.erased.inside;
      others = λ other apart. r.replaces.others other apart ∙ home_stays r.erased other;
      pages = λ page past apart. r.replaces.pages page (rw r.erased.erases.shape past) ∙ r.erased.erases.others page apart;
    };
    kept = kept_trans r.erased.kept r.kept;
    counts = counts_replaced;
    later = record {
      named = r.same.named ∙ r.erased.same.named;
      pages = r.same.pages ∙ r.erased.same.pages;
      read_faults = omega (arith, r.erased.same.read_faults, r.same.read_faults);
      change_faults = omega (arith, r.erased.same.change_faults, r.same.change_faults);
    };
  }

  pub blank_replaced : IsBlankBlock new (home new block) → (page : ℕ) → page / inner.shape.pages ≡ home new block → page_of new page ≡ blank_page (page_bytes inner.shape)
  blank_replaced blank page here = blank_home inner new (home new block) shape_replaced blank page here

  -- the cells of the block lie below the old ones, where it could not be moved and where it was moved to a blank block
  pub below_replaced : (home new block ≡ home mid block) ⊎ IsBlankBlock new (home new block) → (page : ℕ) → page / inner.shape.pages ≡ block
      → IsAbove (page_of inner (spare_place inner page)) (page_of new (spare_place new page))
  below_replaced (inl same) page here =
      let home' : home new (page / inner.shape.pages) ≡ home inner (page / inner.shape.pages) = ap (home new) here ∙ (same ∙ (home_stays r.erased block ∙ ap (home inner) (sym here))) in
      let past : inner.shape.pages ≤ spare_place inner page = place_past_table inner logical page r.erased.shaped.some_pages r.erased.homes (in_block (erasure_home r.erased) page here) in
      let stays : page_of new (spare_place inner page) ≡ page_of mid (spare_place inner page) = r.replaces.pages (spare_place inner page) (rw r.erased.erases.shape past) in
      rw (same_place inner new page shape_replaced home', stays) (r.erased.erases.below (spare_place inner page) (place_of_block r.erased page here))
  below_replaced (inr blank) page here =
      let some : 0 < new.shape.pages = rw shape_replaced r.erased.shaped.some_pages in
      let here' : page / new.shape.pages ≡ block = ap (λ (shape : Shape). page / shape.pages) shape_replaced ∙ here in
      let is : page_of new (spare_place new page) ≡ blank_page (page_bytes new.shape) = blank (spare_place new page) (place_block new page some ∙ ap (home new) here') in
      let long : length (page_of inner (spare_place inner page)) ≡ page_bytes inner.shape
      = r.erased.shaped.lengths (spare_place inner page) (place_inside inner logical page r.erased.shaped.some_pages r.erased.homes (in_block (erasure_home r.erased) page here)) in
      rw is (above_blank (page_of inner (spare_place inner page)) (page_bytes new.shape) (long ∙ ap page_bytes (sym shape_replaced)))
