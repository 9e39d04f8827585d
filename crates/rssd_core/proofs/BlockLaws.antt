-- What each state of a block says of the cells stays where the block's pages and live records stay.
use Rattle.std.proofs.Common.{◌≡◌, ◌≢◌, inl, inr, ℕ, zero, suc, ◌+◌, ◌*◌, ◌/◌, ◌%◌, ◌<◌, ◌≤◌, Bool, true, List, drop, Option, Some, None, refl, sym, ap, ◌∙◌, subst, arith}
use Rattle.std.specs.List.{list_all, range_with_len}
use Rattle.std.proofs.lemmas.Bool.{and_parts, and_from, cases_Bool, false≢true, eqb-true, eq-eqb}
use Rattle.std.proofs.lemmas.Nat.{div-mul-add, div-add-mod'}
use native.Mathlib.Nat.{mul-le-mul_right, suc-mul}
use Rattle.cell_die.specs.Cells.{page_at, is_blank}
use Rattle.spare_gate.specs.Slots.{is_slot_blank}
use Rattle.block_state.specs.declared.state.State.{State}
use Rattle.block_state.specs.declared.state.State.TheVariants.{Clean, Active, Used, Recycled, Reused, Spare}
use Rattle.page_codec.specs.Geometry.{Geometry, block_of, units, unit_page, spare_at}
use Rattle.page_codec.specs.Records.{Placed, live_record}
use Rattle.page_codec.specs.Sound.{live_count, stands_in}
use Rattle.page_codec.specs.TrueBook.{BlankAbove, IsTrueState, is_block_blank}
use Rattle.rssd_core.specs.Steps.{IsSized}
use Rattle.collector.proofs.Counting.{none_pass, none_passes}

-- the pages of a block
pub block_of_page : (g : Geometry) (block i : ℕ) → i < g.pages → block_of g (block * g.pages + i) ≡ block
block_of_page g block i within = div-mul-add block g.pages i within

pub page_in_block : (g : Geometry) (block page : ℕ) → 0 < g.pages → block_of g page ≡ block → (i : ℕ) × (i < g.pages) × (block * g.pages + i ≡ page)
page_in_block g block page some here = (page % g.pages, below page g.pages some, ap (λ (b : ℕ). b * g.pages + page % g.pages) (sym here) ∙ whole page g.pages)
  where
    below : (p n : ℕ) → 0 < n → p % n < n
    below p n h = omega arith

    whole : (p n : ℕ) → p / n * n + p % n ≡ p
    whole p n = div-add-mod' p n

-- the first pages of its units
pub unit_within : (g : Geometry) (u : ℕ) → 0 < g.span → u < units g → u * g.span + g.span ≤ g.pages
unit_within g u span within = room u g.pages g.span span within
  where
    room : (u w s : ℕ) → 0 < s → u < w / s → u * s + s ≤ w
    room u w s some below = omega (arith, div-add-mod' w s, mul-le-mul_right s below, suc-mul u s)

pub block_of_unit : (g : Geometry) (block u : ℕ) → 0 < g.span → u < units g → block_of g (unit_page g block u) ≡ block
block_of_unit g block u span within = block_of_page g block (u * g.span) (omega (arith, unit_within g u span within))

-- ---- all of a range

pub all_in_range : (p : ℕ → Bool) (a n : ℕ) → ((i : ℕ) → i < n → p (a + i) ≡ true) → list_all p (range_with_len a n) ≡ true
all_in_range p a zero f = refl
all_in_range p a (suc n) f = and_from _ _ (subst (λ (k : ℕ). p k ≡ true) (omega arith) (f 0 (omega arith)))
    (all_in_range p (a + 1) n (λ i h. subst (λ (k : ℕ). p k ≡ true) (omega arith) (f (suc i) (omega arith))))

pub in_range_all : (p : ℕ → Bool) (a n : ℕ) → list_all p (range_with_len a n) ≡ true → (i : ℕ) → i < n → p (a + i) ≡ true
in_range_all p a zero h i within = absurd (omega arith)
in_range_all p a (suc n) h zero within = subst (λ (k : ℕ). p k ≡ true) (omega arith) (and_parts _ _ h).0
in_range_all p a (suc n) h (suc i) within = subst (λ (k : ℕ). p k ≡ true) (omega arith) (in_range_all p (a + 1) n (and_parts _ _ h).1 i (omega arith))

pub blank_block : (g : Geometry) (cells : List (List ℕ)) (block : ℕ) → ((i : ℕ) → i < g.pages → is_blank (page_at cells (block * g.pages + i)) ≡ true) → is_block_blank g cells block ≡ true
blank_block g cells block f = all_in_range (λ page. is_blank (page_at cells page)) (block * g.pages) g.pages f

pub block_blank : (g : Geometry) (cells : List (List ℕ)) (block : ℕ) → is_block_blank g cells block ≡ true → (i : ℕ) → i < g.pages → is_blank (page_at cells (block * g.pages + i)) ≡ true
block_blank g cells block h = in_range_all (λ page. is_blank (page_at cells page)) (block * g.pages) g.pages h

pub blank_in_block : (g : Geometry) (cells : List (List ℕ)) (block page : ℕ) → 0 < g.pages → is_block_blank g cells block ≡ true → block_of g page ≡ block → is_blank (page_at cells page) ≡ true
blank_in_block g cells block page some h here =
    let at = page_in_block g block page some here in
    subst (λ (p : ℕ). is_blank (page_at cells p) ≡ true) at.2 (block_blank g cells block h at.0 at.1)

-- ---- live records of a block

-- the block's pages are as before, and each live record in it is an old one
pub record BlockStays (g : Geometry) (old new : List (List ℕ)) (block : ℕ) : Type 0 where
  pub pages : (page : ℕ) → block_of g page ≡ block → page_at new page ≡ page_at old page
  pub live : (sector : ℕ) (placed : Placed) → sector < g.sectors → live_record g new sector ≡ Some placed → block_of g placed.place.page ≡ block → live_record g old sector ≡ Some placed

stands_some : (g : Geometry) (block : ℕ) (o : Option Placed) → stands_in g block o ≡ true → (placed : Placed) × (o ≡ Some placed) × (block_of g placed.place.page ≡ block)
stands_some g block None h = absurd (false≢true h)
stands_some g block (Some placed) h = (placed, refl, eqb-true (block_of g placed.place.page) block h)

pub stands_here : (g : Geometry) (block : ℕ) (o : Option Placed) (placed : Placed) → o ≡ Some placed → block_of g placed.place.page ≡ block → stands_in g block o ≡ true
stands_here g block o placed is here = ap (stands_in g block) is ∙ eq-eqb (block_of g placed.place.page) block here

-- a block without a live record
pub none_stands : (g : Geometry) (cells : List (List ℕ)) (block : ℕ) → live_count g cells block ≡ 0 → (sector : ℕ) (placed : Placed) → sector < g.sectors → live_record g cells sector ≡ Some placed
    → block_of g placed.place.page ≢ block
unfolding live_count
none_stands g cells block free sector placed within is here =
    false≢true (sym (none_passes (λ s. stands_in g block (live_record g cells s)) g.sectors free sector within) ∙ stands_here g block (live_record g cells sector) placed is here)

pub still_free : (g : Geometry) (old new : List (List ℕ)) (block : ℕ) → BlockStays g old new block → live_count g old block ≡ 0 → live_count g new block ≡ 0
unfolding live_count
still_free g old new block stays free = none_pass (λ s. stands_in g block (live_record g new s)) g.sectors (λ sector within. elim (cases_Bool (stands_in g block (live_record g new sector))) [
  | inr none ↦ none
  | inl one ↦ (
      let here = stands_some g block (live_record g new sector) one in
      absurd (none_stands g old block free sector here.0 within (stays.live sector here.0 within here.1 here.2) here.2))
])

-- ---- the states

spare_stays : (g : Geometry) (old new : List (List ℕ)) (block page slot : ℕ) → BlockStays g old new block → block_of g page ≡ block → is_slot_blank (spare_at g old page) slot ≡ true
    → is_slot_blank (spare_at g new page) slot ≡ true
spare_stays g old new block page slot stays here h = subst (λ (bytes : List ℕ). is_slot_blank (drop g.main_bytes bytes) slot ≡ true) (sym (stays.pages page here)) h

page_stays : (g : Geometry) (old new : List (List ℕ)) (block i : ℕ) → BlockStays g old new block → i < g.pages → is_blank (page_at old (block * g.pages + i)) ≡ true
    → is_blank (page_at new (block * g.pages + i)) ≡ true
page_stays g old new block i stays within h = subst (λ (bytes : List ℕ). is_blank bytes ≡ true) (sym (stays.pages (block * g.pages + i) (block_of_page g block i within))) h

above_stays : (g : Geometry) (old new : List (List ℕ)) (block level : ℕ) → IsSized g → BlockStays g old new block → BlankAbove g old block level → BlankAbove g new block level
above_stays g old new block level sized stays h u slot within above few =
    spare_stays g old new block (unit_page g block u) slot stays (block_of_unit g block u sized.span within) (h u slot within above few)

pub state_stays : (g : Geometry) (old new : List (List ℕ)) (block : ℕ) (s : State) → IsSized g → BlockStays g old new block → IsTrueState g old block s → IsTrueState g new block s
state_stays g old new block Clean sized stays h = blank_block g new block (λ i within. page_stays g old new block i stays within (block_blank g old block h i within))
state_stays g old new block (Active fill) sized stays h = record {
  room = h.room;
  blank = λ i from within. page_stays g old new block i stays within (h.blank i from within);
  above = above_stays g old new block 0 sized stays h.above;
}
state_stays g old new block (Used level) sized stays h = record { may_rise = h.may_rise; above = above_stays g old new block level sized stays h.above }
state_stays g old new block (Recycled level next) sized stays h = record {
  low = h.low;
  high = h.high;
  more = h.more;
  blank = λ u from within. spare_stays g old new block (unit_page g block u) level stays (block_of_unit g block u sized.span within) (h.blank u from within);
  above = above_stays g old new block level sized stays h.above;
  live = λ sector placed within is here. h.live sector placed within (stays.live sector placed within is here) here;
}
state_stays g old new block Reused sized stays h = tt
state_stays g old new block (Spare marked) sized stays h = record {
  free = still_free g old new block stays h.free;
  blank = λ marked_blank. blank_block g new block (λ i within. page_stays g old new block i stays within (block_blank g old block (h.blank marked_blank) i within));
}
