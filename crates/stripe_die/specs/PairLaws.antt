-- Laws of the places of a pair's blocks and pages, and of the cells and counts that stand there.
use Rattle.std.proofs.Common.{◌≡◌, ℕ, ◌+◌, ◌*◌, ◌/◌, ◌%◌, ◌<◌, ◌≤◌, List, [], length, get_or, refl, ap, sym, ◌∙◌, arith, ⊎_elim, eq-eqb}
use Rattle.std.specs.Prelude.{All, if◌then◌else◌}
use Rattle.std.proofs.Math.Nat.{div-lt_iff_lt-mul}
use Rattle.std.proofs.lemmas.Nat.{div-mul-add, mod-mul-add, div-add-mod'}
use Rattle.std.proofs.lemmas.Bool.{cases_eq, cases_lt, ne_eqb}
use Rattle.std.proofs.lemmas.List.{get_or_past}
use Rattle.std.proofs.lemmas.List.FromFn.{get_or-map-range_with_len, length-map-range_with_len}
use Rattle.cell_die.specs.declared.shape.Shape.{Shape}
use Rattle.cell_die.specs.DieState.{DieState, IsShaped, page_of, page_bytes, page_count, erases_of}
use Rattle.stripe_die.specs.declared.half.Half.{Half}
use Rattle.stripe_die.specs.declared.half.Half.TheVariants.{First, Second}
use Rattle.stripe_die.specs.Places.{block_place, page_place, with_number, at_place}
use Rattle.stripe_die.specs.Pair.{pair_state, pair_page, pair_count}

-- the block of the pair that stands there
abbrev pub block_back : Half → ℕ
block_back (First n) = 2 * n
block_back (Second n) = 2 * n + 1

pub block_back-place : (block : ℕ) → block_back (block_place block) ≡ block
block_back-place block = ⊎_elim
    (λ even. ap (λ b. block_back (if b then First (block / 2) else Second (block / 2))) (eq-eqb (block % 2) 0 even) ∙ omega arith)
    (λ odd. ap (λ b. block_back (if b then First (block / 2) else Second (block / 2))) (ne_eqb (block % 2) 0 odd) ∙ omega arith)
    (cases_eq (block % 2) 0)

-- the page of the pair that stands there
abbrev pub page_back : ℕ → Half → ℕ
page_back pages (First n) = 2 * (n / pages) * pages + n % pages
page_back pages (Second n) = (2 * (n / pages) + 1) * pages + n % pages

back_with : (pages rest : ℕ) (place : Half) → rest < pages → page_back pages (with_number (λ block. block * pages + rest) place) ≡ block_back place * pages + rest
back_with pages rest (First n) within = rw (div-mul-add n pages rest within, mod-mul-add n pages rest within) refl
back_with pages rest (Second n) within = rw (div-mul-add n pages rest within, mod-mul-add n pages rest within) refl

pub page_back-place : (pages page : ℕ) → 0 < pages → page_back pages (page_place pages page) ≡ page
page_back-place pages page some =
    let within : page % pages < pages = omega arith in
    back_with pages (page % pages) (block_place (page / pages)) within
    ∙ (ap (λ block. block * pages + page % pages) (block_back-place (page / pages)) ∙ div-add-mod' page pages)

-- the number in its die
abbrev pub number_at : Half → ℕ
number_at (First n) = n
number_at (Second n) = n

-- the block of the place of a page is the place of the page's block
pub place_block : (pages page : ℕ) → 0 < pages → block_back (with_number (λ n. n / pages) (page_place pages page)) ≡ page / pages
place_block pages page some = go (block_place (page / pages)) (omega arith) ∙ block_back-place (page / pages) where
  go : (place : Half) → page % pages < pages → block_back (with_number (λ n. n / pages) (with_number (λ block. block * pages + page % pages) place)) ≡ block_back place
  go (First n) within = ap (λ k. 2 * k) (div-mul-add n pages (page % pages) within)
  go (Second n) within = ap (λ k. 2 * k + 1) (div-mul-add n pages (page % pages) within)

-- a page that the pair has is one that its die has
pub page_inside : (pages page count : ℕ) → 0 < pages → page < 2 * count * pages → number_at (page_place pages page) < count * pages
page_inside pages page count some below = go (page_place pages page) (place_block pages page some)
    ((div-lt_iff_lt-mul {k = pages} {x = page} {y = 2 * count} some).1 below) where
      to_product : (n : ℕ) → n / pages < count → n < count * pages
      to_product n fewer = (div-lt_iff_lt-mul {k = pages} {x = n} {y = count} some).0 fewer

      go : (place : Half) → block_back (with_number (λ n. n / pages) place) ≡ page / pages → page / pages < 2 * count → number_at place < count * pages
      go (First n) is fewer = to_product n (omega arith)
      go (Second n) is fewer = to_product n (omega arith)

-- and a page that the pair has not is one that its die has not
pub page_past : (pages page count : ℕ) → 0 < pages → 2 * count * pages ≤ page → count * pages ≤ number_at (page_place pages page)
page_past pages page count some past = ⊎_elim
    (λ inside. let fewer : page / pages < 2 * count = go (page_place pages page) (place_block pages page some) (from_product (number_at (page_place pages page)) inside) in
    let below : page < 2 * count * pages = (div-lt_iff_lt-mul {k = pages} {x = page} {y = 2 * count} some).0 fewer in
    absurd (omega arith))
    (λ outside. outside)
    (cases_lt (number_at (page_place pages page)) (count * pages)) where
      from_product : (n : ℕ) → n < count * pages → n / pages < count
      from_product n below = (div-lt_iff_lt-mul {k = pages} {x = n} {y = count} some).1 below

      go : (place : Half) → block_back (with_number (λ n. n / pages) place) ≡ page / pages → number_at place / pages < count → page / pages < 2 * count
      go (First n) is fewer = omega arith
      go (Second n) is fewer = omega arith

-- what stands at a place that neither die has
none_at : {T : Type 0} → (xs ys : List T) (d : T) (place : Half) → length xs ≤ number_at place → length ys ≤ number_at place
    → at_place (λ n. get_or xs n d) (λ n. get_or ys n d) place ≡ d
none_at xs ys d (First n) one two = get_or_past xs n d one
none_at xs ys d (Second n) one two = get_or_past ys n d two

-- the pages of a pair, those that it has not being empty
pub page_of-pair : (a b : DieState) → b.shape ≡ a.shape → IsShaped a → IsShaped b → (page : ℕ) → page_of (pair_state a b) page ≡ pair_page a b page
page_of-pair a b same first second page =
    let count : ℕ = 2 * a.shape.blocks * a.shape.pages in
    let second_count : length b.cells ≡ page_count a.shape = second.pages ∙ ap page_count same in
    ⊎_elim
    (λ inside. get_or-map-range_with_len (pair_page a b) 0 (2 * a.shape.blocks * a.shape.pages) page page [] inside (omega arith))
    (λ past. let far : page_count a.shape ≤ number_at (page_place a.shape.pages page) = page_past a.shape.pages page a.shape.blocks first.some_pages past in
    get_or_past (pair_state a b).cells page [] (omega (arith, length-map-range_with_len (pair_page a b) 0 (2 * a.shape.blocks * a.shape.pages)))
    ∙ sym (none_at a.cells b.cells [] (page_place a.shape.pages page) (omega (arith, first.pages)) (omega arith)))
    (cases_lt page (2 * a.shape.blocks * a.shape.pages))

-- a block that the pair has not is one that its die has not
block_past : (place : Half) (block count : ℕ) → block_back place ≡ block → 2 * count ≤ block → count ≤ number_at place
block_past (First n) block count is past = omega arith
block_past (Second n) block count is past = omega arith

-- the erase counts of a pair, those that it has not being 0
pub count_of-pair : (a b : DieState) → b.shape ≡ a.shape → IsShaped a → IsShaped b → (block : ℕ) → erases_of (pair_state a b) block ≡ pair_count a b block
count_of-pair a b same first second block =
    let second_count : length b.erases ≡ a.shape.blocks = second.blocks ∙ ap (λ (shape : Shape). shape.blocks) same in
    ⊎_elim
    (λ inside. get_or-map-range_with_len (pair_count a b) 0 (2 * a.shape.blocks) block block 0 inside (omega arith))
    (λ past. let far : a.shape.blocks ≤ number_at (block_place block) = block_past (block_place block) block a.shape.blocks (block_back-place block) past in
    get_or_past (pair_state a b).erases block 0 (omega (arith, length-map-range_with_len (pair_count a b) 0 (2 * a.shape.blocks)))
    ∙ sym (none_at a.erases b.erases 0 (block_place block) (omega (arith, first.blocks)) (omega arith)))
    (cases_lt block (2 * a.shape.blocks))

-- a page that stands in a die is as long as its pages are, and has bytes as they have
length_at : (a b : DieState) (place : Half) → b.shape ≡ a.shape → IsShaped a → IsShaped b → number_at place < page_count a.shape
    → length (at_place (page_of a) (page_of b) place) ≡ page_bytes a.shape
length_at a b (First n) same first second inside = first.lengths n inside
length_at a b (Second n) same first second inside = second.lengths n (rw same inside) ∙ ap page_bytes same

bytes_at : (a b : DieState) (place : Half) → IsShaped a → IsShaped b → All (λ byte. byte < 256) (at_place (page_of a) (page_of b) place)
bytes_at a b (First n) first second = first.bytes n
bytes_at a b (Second n) first second = second.bytes n

-- a pair has the cells that its shape says
pub pair_shaped : (a b : DieState) → b.shape ≡ a.shape → IsShaped a → IsShaped b → IsShaped (pair_state a b)
pair_shaped a b same first second = record {
  some_pages = first.some_pages;
  pages = length-map-range_with_len (pair_page a b) 0 (2 * a.shape.blocks * a.shape.pages);
  blocks = length-map-range_with_len (pair_count a b) 0 (2 * a.shape.blocks);
  lengths = λ page below. rw (page_of-pair a b same first second page)
      (length_at a b (page_place a.shape.pages page) same first second (page_inside a.shape.pages page a.shape.blocks first.some_pages below));
  bytes = λ page. rw (page_of-pair a b same first second page) (bytes_at a b (page_place a.shape.pages page) first second);
}
