-- A call of one of the two dies, by its place: P holds of the die that stands there, and the other die stays as it was. So each
-- fact on the pair is the same fact on the one die, at the place of the page or block.
use Rattle.std.proofs.Common.{◌≡◌, ◌≢◌, ◌⊎◌, inl, inr, ℕ, ◌+◌, ◌*◌, ◌/◌, ◌%◌, ◌<◌, ◌≤◌, List, refl, ap, ap₂, sym, subst, ◌∙◌, arith, map, get_or, ⊎_elim}
use Rattle.std.proofs.lemmas.Nat.{div-mul-add}
use Rattle.std.specs.List.{range_with_len}
use Rattle.cell_die.specs.declared.shape.Shape.{Shape}
use Rattle.cell_die.specs.Cells.{IsAbove, page_at, blank_page}
use Rattle.cell_die.specs.Counts.{Stayed, raised}
use Rattle.cell_die.specs.DieState.{DieState, IsShaped, page_of, page_bytes, page_count, block_of, erases_of}
use Rattle.cell_die.specs.Changes.{SameCells, OnlyPage, OnlyBlock, IsErased, ErasedInPart}
use Rattle.cell_die.specs.Calls.{Kept}
use Rattle.cell_die.proofs.Sequences.{kept_refl}
use Rattle.stripe_die.specs.declared.half.Half.{Half}
use Rattle.stripe_die.specs.declared.half.Half.TheVariants.{First, Second}
use Rattle.stripe_die.specs.Places.{block_place, page_place, with_number, at_place}
use Rattle.stripe_die.specs.Pair.{pair_state, pair_shape, pair_count, OnOne}
use Rattle.stripe_die.specs.PairLaws.{block_back, block_back-place, page_back, page_back-place, number_at, page_inside, page_of-pair, count_of-pair}

-- two dies that make a pair
pub record Halves (a b : DieState) : Type 0 where
  pub same : b.shape ≡ a.shape
  pub first : IsShaped a
  pub second : IsShaped b

pub two : {a b : DieState} → b.shape ≡ a.shape → IsShaped a → IsShaped b → Halves a b
two same first second = record { same = same; first = first; second = second }

-- P holds of the die that stands there, before and after, and the other die stays as it was
pub record CallAt (place : Half) (P : DieState → DieState → Type 0) (a b a' b' : DieState) : Type 0 where
  pub before : Halves a b
  pub after : Halves a' b'
  pub shape : a'.shape ≡ a.shape
  pub holds : OnOne place P a b a' b'

-- the same call, of which Q holds
again : {P Q : DieState → DieState → Type 0} {place : Half} {a b a' b' : DieState} → CallAt place P a b a' b' → OnOne place Q a b a' b' → CallAt place Q a b a' b'
again call holds = record { before = call.before; after = call.after; shape = call.shape; holds = holds }

pub weaker : {P Q : DieState → DieState → Type 0} (place : Half) {a b a' b' : DieState} → CallAt place P a b a' b'
    → ((old new : DieState) → P old new → Q old new) → CallAt place Q a b a' b'
weaker {P} {Q} (First n) {a} {b} {a'} {b'} call to = again call (to a a' call.holds.0, call.holds.1)
weaker {P} {Q} (Second n) {a} {b} {a'} {b'} call to = again call (to b b' call.holds.0, call.holds.1)

-- what holds of a die that stays as it was holds of both
pub both : (R : DieState → DieState → Type 0) → ((die : DieState) → R die die) → (place : Half) {a b a' b' : DieState} → CallAt place R a b a' b' → R a a' × R b b'
both R same (First n) {a} {b} call = (call.holds.0, subst (R b) (sym call.holds.1) (same b))
both R same (Second n) {a} {b} call = (subst (R a) (sym call.holds.1) (same a), call.holds.0)

-- the key of what stands there, in its die
abbrev keyed : (DieState → ℕ → ℕ) → DieState → DieState → Half → Half
keyed key a b place = at_place (λ n. First (key a n)) (λ n. Second (key b n)) place

-- what holds in the die of all that has the number of the place for its key holds of the pair
along : {T : Type 0} (key : DieState → ℕ → ℕ) (f : DieState → ℕ → T) (R : T → T → Type 0) (place other : Half) {a b a' b' : DieState}
    → CallAt place (λ old new. (n : ℕ) → key old n ≡ number_at place → R (f old n) (f new n)) a b a' b' → keyed key a b other ≡ place
    → R (at_place (f a) (f b) other) (at_place (f a') (f b') other)
along key f R (First m) (First n) call here = call.holds.0 n (cc)
along key f R (First m) (Second n) call here = absurd (cc)
along key f R (Second m) (First n) call here = absurd (cc)
along key f R (Second m) (Second n) call here = call.holds.0 n (cc)

-- and what else stays in that die stays in the pair
others_stay : {T : Type 0} (key : DieState → ℕ → ℕ) (f : DieState → ℕ → T) (place other : Half) {a b a' b' : DieState}
    → CallAt place (λ old new. (n : ℕ) → key old n ≢ number_at place → f new n ≡ f old n) a b a' b' → (keyed key a b other ≡ place → ⊥)
    → at_place (f a') (f b') other ≡ at_place (f a) (f b) other
others_stay key f (First m) (First n) call apart = call.holds.0 n (λ is. apart (ap First is))
others_stay key f (First m) (Second n) call apart = ap (λ die. f die n) call.holds.1
others_stay key f (Second m) (First n) call apart = ap (λ die. f die n) call.holds.1
others_stay key f (Second m) (Second n) call apart = call.holds.0 n (λ is. apart (ap Second is))

-- a number is its own key
abbrev own : DieState → ℕ → ℕ
own die n = n

keyed_own : (a b : DieState) (place : Half) → keyed own a b place ≡ place
keyed_own a b (First n) = refl
keyed_own a b (Second n) = refl

-- the block of a page's place is the place of the page's block
block_at : {a b : DieState} (page : ℕ) → Halves a b → keyed block_of a b (page_place a.shape.pages page) ≡ block_place (page / a.shape.pages)
block_at {a} {b} page halves = go (block_place (page / a.shape.pages)) (omega (arith, halves.first.some_pages)) where
  go : (place : Half) → page % a.shape.pages < a.shape.pages → keyed block_of a b (with_number (λ block. block * a.shape.pages + page % a.shape.pages) place) ≡ place
  go (First n) within = ap First (div-mul-add n a.shape.pages (page % a.shape.pages) within)
  go (Second n) within = rw halves.same (ap Second (div-mul-add n a.shape.pages (page % a.shape.pages) within))

-- places tell pages and blocks apart
page_place-apart : (pages page other : ℕ) → 0 < pages → other ≢ page → page_place pages other ≡ page_place pages page → ⊥
page_place-apart pages page other some apart same =
    apart (sym (page_back-place pages other some) ∙ (ap (page_back pages) same ∙ page_back-place pages page some))

block_place-apart : (block other : ℕ) → other ≢ block → block_place other ≡ block_place block → ⊥
block_place-apart block other apart same = apart (sym (block_back-place other) ∙ (ap block_back same ∙ block_back-place block))

-- the pages and the counts of the pair stand at their places
module _ {place : Half} {P : DieState → DieState → Type 0} {a b a' b' : DieState} (call : CallAt place P a b a' b') where
  pages_along : (R : List ℕ → List ℕ → Type 0) (page : ℕ)
      → R (at_place (page_of a) (page_of b) (page_place a.shape.pages page)) (at_place (page_of a') (page_of b') (page_place a.shape.pages page))
      → R (page_of (pair_state a b) page) (page_of (pair_state a' b') page)
  pages_along R page holds = rw (
    page_of-pair a b call.before.same call.before.first call.before.second page,
    page_of-pair a' b' call.after.same call.after.first call.after.second page,
    call.shape,
  ) holds

  counts_along : (R : ℕ → ℕ → Type 0) (block : ℕ) → R (at_place (erases_of a) (erases_of b) (block_place block)) (at_place (erases_of a') (erases_of b') (block_place block))
      → R (erases_of (pair_state a b) block) (erases_of (pair_state a' b') block)
  counts_along R block holds = rw (
    count_of-pair a b call.before.same call.before.first call.before.second block,
    count_of-pair a' b' call.after.same call.after.first call.after.second block,
  ) holds

-- what holds at the place holds of the pair
here : {T : Type 0} (f : DieState → ℕ → T) (R : T → T → Type 0) (place : Half) {a b a' b' : DieState}
    → CallAt place (λ old new. R (f old (number_at place)) (f new (number_at place))) a b a' b' → R (at_place (f a) (f b) place) (at_place (f a') (f b') place)
here f R (First n) call = call.holds.0
here f R (Second n) call = call.holds.0

-- the cells of a page
pub page_pair : {a b a' b' : DieState} (R : List ℕ → List ℕ → Type 0) (page : ℕ)
    → CallAt (page_place a.shape.pages page) (λ old new. R (page_of old (number_at (page_place a.shape.pages page))) (page_of new (number_at (page_place a.shape.pages page)))) a b a' b'
    → R (page_of (pair_state a b) page) (page_of (pair_state a' b') page)
page_pair {a} {b} {a'} {b'} R page call = pages_along call R page (here page_of R (page_place a.shape.pages page) call)

same_erases : (a b a' b' : DieState) → a'.shape ≡ a.shape → (a'.erases ≡ a.erases) × (b'.erases ≡ b.erases) → (pair_state a' b').erases ≡ (pair_state a b).erases
same_erases a b a' b' shape same =
    ap (λ (shape : Shape). map (pair_count a' b') (range_with_len 0 (2 * shape.blocks))) shape
    ∙ ap₂ (λ (xs ys : List ℕ). map (λ block. at_place (λ n. get_or xs n 0) (λ n. get_or ys n 0) (block_place block)) (range_with_len 0 (2 * a.shape.blocks))) same.0 same.1

pub only_page_pair : {a b a' b' : DieState} (page : ℕ) → CallAt (page_place a.shape.pages page) (OnlyPage (number_at (page_place a.shape.pages page))) a b a' b'
    → OnlyPage page (pair_state a b) (pair_state a' b')
only_page_pair {a} {b} {a'} {b'} page call =
    let place : Half = page_place a.shape.pages page in record {
      others = λ other apart. pages_along call (λ old new. new ≡ old) other (
          others_stay own page_of place (page_place a.shape.pages other) (weaker place call (λ old new only. only.others))
          (λ same. page_place-apart a.shape.pages page other call.before.first.some_pages apart (sym (keyed_own a b (page_place a.shape.pages other)) ∙ same))
          );
      erases = same_erases a b a' b' call.shape (both (λ old new. new.erases ≡ old.erases) (λ die. refl) place (weaker place call (λ old new only. only.erases)));
    }

pub same_cells_pair : {a b a' b' : DieState} (place : Half) → CallAt place SameCells a b a' b' → SameCells (pair_state a b) (pair_state a' b')
same_cells_pair {a} {b} {a'} {b'} place call =
    let same : SameCells a a' × SameCells b b' = both SameCells (λ die. record { cells = refl; erases = refl }) place call in record {
      cells = ap (λ (shape : Shape). map (λ page. at_place (page_of a') (page_of b') (page_place shape.pages page)) (range_with_len 0 (2 * shape.blocks * shape.pages))) call.shape
          ∙ ap₂ (λ (xs ys : List (List ℕ)). map (λ page. at_place (page_at xs) (page_at ys) (page_place a.shape.pages page)) (range_with_len 0 (2 * a.shape.blocks * a.shape.pages)))
          same.0.cells same.1.cells;
      erases = same_erases a b a' b' call.shape (same.0.erases, same.1.erases);
    }

pub kept_pair : {a b a' b' : DieState} (place : Half) → CallAt place Kept a b a' b' → Kept (pair_state a b) (pair_state a' b')
kept_pair {a} {b} {a'} {b'} place call = record {
  shape = ap pair_shape call.shape;
  fixed = refl;
  never_falls = record {
    counts = λ block. counts_along call (λ old new. old ≤ new) block (counts (block_place block));
    cells = λ page stayed. pages_along call (λ old new. IsAbove new old) page (cells (page_place a.shape.pages page) (rw (block_at page call.before) (counts_back page stayed)));
  };
  read_faults = omega (arith, kept.0.read_faults, kept.1.read_faults);
  change_faults = omega (arith, kept.0.change_faults, kept.1.change_faults);
} where
  kept : Kept a a' × Kept b b'
  kept = both Kept kept_refl place call

  counts : (other : Half) → at_place (erases_of a) (erases_of b) other ≤ at_place (erases_of a') (erases_of b') other
  counts (First n) = kept.0.never_falls.counts n
  counts (Second n) = kept.1.never_falls.counts n

  StaysAt : Half → Type 0
  StaysAt block = Stayed (at_place (erases_of a) (erases_of b) block) (at_place (erases_of a') (erases_of b') block)

  cells : (other : Half) → StaysAt (keyed block_of a b other) → IsAbove (at_place (page_of a') (page_of b') other) (at_place (page_of a) (page_of b) other)
  cells (First n) stayed = kept.0.never_falls.cells n stayed
  cells (Second n) stayed = kept.1.never_falls.cells n stayed

  counts_back : (page : ℕ) → Stayed (erases_of (pair_state a b) (page / a.shape.pages)) (erases_of (pair_state a' b') (page / a.shape.pages)) → StaysAt (block_place (page / a.shape.pages))
  counts_back page stayed = rw (
    count_of-pair a b call.before.same call.before.first call.before.second (page / a.shape.pages),
    count_of-pair a' b' call.after.same call.after.first call.after.second (page / a.shape.pages),
  ) at stayed

-- what holds in the die of the block's pages holds in the pair
block_pages : {a b a' b' : DieState} (R : List ℕ → List ℕ → Type 0) (block page : ℕ)
    → CallAt (block_place block) (λ old new. (n : ℕ) → block_of old n ≡ number_at (block_place block) → R (page_of old n) (page_of new n)) a b a' b' → page / a.shape.pages ≡ block
    → R (page_of (pair_state a b) page) (page_of (pair_state a' b') page)
block_pages {a} {b} {a'} {b'} R block page call here =
    pages_along call R page (along block_of page_of R (block_place block) (page_place a.shape.pages page) call (block_at page call.before ∙ ap block_place here))

block_count : {a b a' b' : DieState} (block : ℕ)
    → CallAt (block_place block) (λ old new. erases_of new (number_at (block_place block)) ≡ raised (erases_of old (number_at (block_place block)))) a b a' b'
    → erases_of (pair_state a' b') block ≡ raised (erases_of (pair_state a b) block)
block_count block call = counts_along call (λ old new. new ≡ raised old) block (here erases_of (λ old new. new ≡ raised old) (block_place block) call)

pub only_block_pair : {a b a' b' : DieState} (block : ℕ) → CallAt (block_place block) (OnlyBlock (number_at (block_place block))) a b a' b' → OnlyBlock block (pair_state a b) (pair_state a' b')
only_block_pair {a} {b} {a'} {b'} block call =
    let place : Half = block_place block in record {
      pages = λ page apart. pages_along call (λ old new. new ≡ old) page (
          others_stay block_of page_of place (page_place a.shape.pages page) (weaker place call (λ old new only. only.pages))
          (λ same. block_place-apart block (page / a.shape.pages) apart (sym (block_at page call.before) ∙ same))
          );
      counts = λ other apart. counts_along call (λ old new. new ≡ old) other (
          others_stay own erases_of place (block_place other) (weaker place call (λ old new only. only.counts))
          (λ same. block_place-apart block other apart (sym (keyed_own a b (block_place other)) ∙ same))
          );
    }

pub is_erased_pair : {a b a' b' : DieState} (block : ℕ) → CallAt (block_place block) (IsErased (number_at (block_place block))) a b a' b' → IsErased block (pair_state a b) (pair_state a' b')
is_erased_pair {a} {b} {a'} {b'} block call = record {
  blank = λ page here. block_pages (λ old new. new ≡ blank_page (page_bytes a.shape)) block page (blank (block_place block) call) here;
  count = block_count block (weaker (block_place block) call (λ old new erased. erased.count));
} where
  -- the pages of both dies are as long
  blank : (place : Half) → CallAt place (IsErased (number_at place)) a b a' b'
      → CallAt place (λ old new. (n : ℕ) → block_of old n ≡ number_at place → page_of new n ≡ blank_page (page_bytes a.shape)) a b a' b'
  blank (First m) call = again call (call.holds.0.blank, call.holds.1)
  blank (Second m) call = again call (λ n here. call.holds.0.blank n here ∙ ap (λ (shape : Shape). blank_page (page_bytes shape)) call.before.same, call.holds.1)

-- a failed erase of one die
pub in_part_pair : {a b a' b' : DieState} (block : ℕ) → CallAt (block_place block) (λ old new. SameCells old new ⊎ ErasedInPart (number_at (block_place block)) old new) a b a' b'
    → SameCells (pair_state a b) (pair_state a' b') ⊎ ErasedInPart block (pair_state a b) (pair_state a' b')
in_part_pair {a} {b} {a'} {b'} block call = go (cases (block_place block) call) where
  Cases : Half → Type 0
  Cases place = CallAt place SameCells a b a' b' ⊎ CallAt place (ErasedInPart (number_at place)) a b a' b'

  cases : (place : Half) → CallAt place (λ old new. SameCells old new ⊎ ErasedInPart (number_at place) old new) a b a' b' → Cases place
  cases (First n) call = ⊎_elim (λ same. inl (again call (same, call.holds.1))) (λ part. inr (again call (part, call.holds.1))) call.holds.0
  cases (Second n) call = ⊎_elim (λ same. inl (again call (same, call.holds.1))) (λ part. inr (again call (part, call.holds.1))) call.holds.0

  go : Cases (block_place block) → SameCells (pair_state a b) (pair_state a' b') ⊎ ErasedInPart block (pair_state a b) (pair_state a' b')
  go (inl same) = inl (same_cells_pair (block_place block) same)
  go (inr part) = inr (record {
    below = λ page here. block_pages (λ old new. IsAbove old new) block page (weaker (block_place block) part (λ old new part. part.below)) here;
    count = block_count block (weaker (block_place block) part (λ old new part. part.count));
  })

-- a page or block that the pair has is one that its die has
module _ {a b : DieState} {n : ℕ} (halves : Halves a b) where
  pub first_inside : (page : ℕ) → First n ≡ page_place a.shape.pages page → page < page_count (pair_shape a.shape) → n < page_count a.shape
  first_inside page at below = rw (← at) at (page_inside a.shape.pages page a.shape.blocks halves.first.some_pages below)

  pub second_inside : (page : ℕ) → Second n ≡ page_place a.shape.pages page → page < page_count (pair_shape a.shape) → n < page_count b.shape
  second_inside page at below = rw halves.same (rw (← at) at (page_inside a.shape.pages page a.shape.blocks halves.first.some_pages below))

  pub first_block_inside : (block : ℕ) → First n ≡ block_place block → block < (pair_shape a.shape).blocks → n < a.shape.blocks
  first_block_inside block at below = let back : 2 * n ≡ block = ap block_back at ∙ block_back-place block in omega arith

  pub second_block_inside : (block : ℕ) → Second n ≡ block_place block → block < (pair_shape a.shape).blocks → n < b.shape.blocks
  second_block_inside block at below = let back : 2 * n + 1 ≡ block = ap block_back at ∙ block_back-place block in rw halves.same (omega arith)

  -- the page of the pair is the page at its place
  pub first_page : (page : ℕ) → First n ≡ page_place a.shape.pages page → page_of (pair_state a b) page ≡ page_of a n
  first_page page at = page_of-pair a b halves.same halves.first halves.second page ∙ ap (at_place (page_of a) (page_of b)) (sym at)

  pub second_page : (page : ℕ) → Second n ≡ page_place a.shape.pages page → page_of (pair_state a b) page ≡ page_of b n
  second_page page at = page_of-pair a b halves.same halves.first halves.second page ∙ ap (at_place (page_of a) (page_of b)) (sym at)
