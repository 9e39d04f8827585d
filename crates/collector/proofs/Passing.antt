-- The live records of a block are passed slot by slot: how a list of those that were passed grows.
use Rattle.std.proofs.Common.{◌≡◌, ◌≢◌, ◌⊎◌, inl, inr, ℕ, ◌+◌, ◌*◌, ◌%◌, ◌<◌, ◌≤◌, Bool, true, false, cond, List, [], ◌∷◌, ◌++◌, length, ◌&&◌, ◌==◌, if◌then◌else◌, Option, Some, None, refl, sym}
use Rattle.std.proofs.Common.{ap, ap₂, ◌∙◌, arith, subst, length-append, zero-add}
use Rattle.std.specs.List.{sum_by, range_with_len}
use Rattle.std.proofs.lemmas.Bool.{cases_eq, cases_lt, and_left, and_parts, lt-ltb, le-ltb, eq-eqb, eqb-true, ne_eqb, false≢true}
use Rattle.std.proofs.lemmas.List.{get_or_append_left, get_or_push}
use Rattle.std.proofs.lemmas.Nat.{div-add-mod'}
use native.Mathlib.Nat.{mul-le-mul_right, suc-mul}
use Rattle.page_codec.specs.declared.place.Place.{Place}
use Rattle.page_codec.specs.Geometry.{Geometry, block_of}
use Rattle.page_codec.specs.Records.{Placed, live_record}
use Rattle.page_codec.specs.Sound.{stands_in, live_count}
use Rattle.page_codec.proofs.Live.{holds_within}
use Rattle.collector.specs.Moves.{ComesBefore}
use Rattle.collector.specs.Collections.{AreLiveOf, get_reads, nth, nowhere}
use Rattle.collector.specs.Inside.{number_of, is_passed, passed_count, passed_gets, Scanned}
use Rattle.collector.proofs.Counting.{same_count, count_rises, none_pass}
use Rattle.collector.proofs.Weights.{same_sum, sum_rises, sum_lower, zero_sum}
use Rattle.collector.proofs.Committed.{live_so, live_apart}

-- ---- numbers of slots

-- slots of lower numbers come before
lower : (a b s t w : ℕ) → s < w → t < w → a * w + s < b * w + t → (a < b) ⊎ ((a ≡ b) × (s < t))
lower a b s t w i j l = elim (cases_lt a b) [
  | inl before ↦ inl before
  | inr after ↦ elim (cases_eq a b) [
    | inl same ↦ inr (same, (let e : a * w ≡ b * w = ap (λ (z : ℕ). z * w) same in omega arith))
    | inr apart ↦ absurd (let more : b + 1 ≤ a = omega arith in omega (arith, mul-le-mul_right w more, suc-mul b w))
  ]
]

same_number : (a b s t w : ℕ) → s < w → t < w → a * w + s ≡ b * w + t → (a ≡ b) × (s ≡ t)
same_number a b s t w i j e = elim (cases_lt a b) [
  | inl before ↦ absurd (let more : a + 1 ≤ b = omega arith in omega (arith, mul-le-mul_right w more, suc-mul a w))
  | inr after ↦ elim (cases_lt b a) [
    | inl before ↦ absurd (let more : b + 1 ≤ a = omega arith in omega (arith, mul-le-mul_right w more, suc-mul b w))
    | inr not ↦ (let same : a ≡ b = omega arith in (same, (let p : a * w ≡ b * w = ap (λ (z : ℕ). z * w) same in omega arith)))
  ]
]

-- a page by its block and its place in it
pub page_is : (g : Geometry) (page block : ℕ) → block_of g page ≡ block → page ≡ block * g.pages + page % g.pages
page_is g page block e = sym (div-add-mod' page g.pages) ∙ ap (λ (z : ℕ). z * g.pages + page % g.pages) e

-- of the slots of a block, those with one number are one
pub place_apart : (g : Geometry) (block : ℕ) (p q : Place) → p.slot < g.generations → q.slot < g.generations → block_of g p.page ≡ block → block_of g q.page ≡ block → number_of g p ≡ number_of g q
    → p ≡ q
place_apart g block p q in_p in_q here there same =
    let parts = same_number _ _ _ _ g.generations in_p in_q same in
    let page : p.page ≡ q.page = page_is g p.page block here ∙ (ap (λ (z : ℕ). block * g.pages + z) parts.0 ∙ sym (page_is g q.page block there)) in
    λ i. record { page = page i; slot = parts.1 i }

module _ (g : Geometry) (cells : List (List ℕ)) (one : 1 ≤ g.generations) where
  pub slot_in : (sector : ℕ) (x : Placed) → live_record g cells sector ≡ Some x → x.place.slot < g.generations
  slot_in sector x e = (holds_within g x.place one (live_so g cells sector x e).so.holds).1

  -- of live records of a block, those with one number are one
  pub number_apart : (block s t : ℕ) (x y : Placed) → live_record g cells s ≡ Some x → live_record g cells t ≡ Some y → block_of g x.place.page ≡ block → block_of g y.place.page ≡ block
      → number_of g x.place ≡ number_of g y.place → x ≡ y
  number_apart block s t x y e f in_x in_y same =
      live_apart g cells s t x y e f (place_apart g block x.place y.place (slot_in s x e) (slot_in t y f) in_x in_y same)

  before_from : (block s t : ℕ) (x y : Placed) → live_record g cells s ≡ Some x → live_record g cells t ≡ Some y → block_of g x.place.page ≡ block → block_of g y.place.page ≡ block
      → number_of g x.place < number_of g y.place → ComesBefore x.place y.place
  before_from block s t x y e f in_x in_y less = elim (lower _ _ _ _ g.generations (slot_in s x e) (slot_in t y f) less) [
    | inl before ↦ inl (omega (arith, page_is g x.place.page block in_x, page_is g y.place.page block in_y))
    | inr same ↦ inr (page_is g x.place.page block in_x ∙ (ap (λ (z : ℕ). block * g.pages + z) same.0 ∙ sym (page_is g y.place.page block in_y)), same.1)
  ]

-- ---- one record more

pub length_push : (records : List Placed) (x : Placed) → length (records ++ x ∷ []) ≡ length records + 1
length_push records x = omega (arith, length-append records (x ∷ []))

pub nth_front : (records : List Placed) (x : Placed) (i : ℕ) → i < length records → nth (records ++ x ∷ []) i ≡ nth records i
nth_front records x i h = get_or_append_left records (x ∷ []) nowhere i h

pub nth_last : (records : List Placed) (x : Placed) (i : ℕ) → i ≡ length records → nth (records ++ x ∷ []) i ≡ x
nth_last records x i e = get_or_push records x nowhere i (sym e)

-- ---- what is passed

-- where no live record has this number, none more is passed
passed_same : (g : Geometry) (block cursor : ℕ) (o : Option Placed) → ((y : Placed) → o ≡ Some y → block_of g y.place.page ≡ block → number_of g y.place ≢ cursor)
    → is_passed g block (cursor + 1) o ≡ is_passed g block cursor o
passed_same g block cursor None f = refl
passed_same g block cursor (Some y) f = elim (cases_eq (block_of g y.place.page) block) [
  | inr apart ↦ and_left _ _ (ne_eqb _ _ apart) ∙ sym (and_left _ _ (ne_eqb _ _ apart))
  | inl here ↦ (let other : number_of g y.place ≢ cursor = f y refl here in elim (cases_lt (number_of g y.place) cursor) [
    | inl below ↦ ap (λ (t : Bool). block_of g y.place.page == block && t) (lt-ltb _ _ (omega arith) ∙ sym (lt-ltb _ _ below))
    | inr above ↦ ap (λ (t : Bool). block_of g y.place.page == block && t) (le-ltb (number_of g y.place) (cursor + 1) (omega arith) ∙ sym (le-ltb _ _ above))
  ])
]

passed_yes : (g : Geometry) (block cursor : ℕ) (y : Placed) → block_of g y.place.page ≡ block → number_of g y.place < cursor → is_passed g block cursor (Some y) ≡ true
passed_yes g block cursor y here below = ap₂ (λ (s t : Bool). s && t) (eq-eqb _ _ here) (lt-ltb _ _ below)

passed_no : (g : Geometry) (block cursor : ℕ) (y : Placed) → cursor ≤ number_of g y.place → is_passed g block cursor (Some y) ≡ false
passed_no g block cursor y above = ap (λ (t : Bool). block_of g y.place.page == block && t) (le-ltb _ _ above) ∙ no (block_of g y.place.page == block)
  where
    no : (t : Bool) → (t && false) ≡ false
    no true = refl
    no false = refl

-- before the first slot nothing is passed
none_passed : (g : Geometry) (block : ℕ) (o : Option Placed) → is_passed g block 0 o ≡ false
none_passed g block None = refl
none_passed g block (Some y) = passed_no g block 0 y (omega arith)

module _ (g : Geometry) (cells : List (List ℕ)) (block : ℕ) where
  pub scanned_start : Scanned g cells block 0 []
  scanned_start = record {
    live = λ i h. absurd (omega arith);
    inside = λ i h. absurd (omega arith);
    passed = λ i h. absurd (omega arith);
    ordered = λ i j h k. absurd (omega arith);
    all = λ sector placed e f h. absurd (omega arith);
    count = sym (none_pass (λ sector. is_passed g block 0 (live_record g cells sector)) g.sectors (λ k h. none_passed g block (live_record g cells k)));
  }

  pub gets_start : passed_gets g cells block 0 ≡ 0
  gets_start = zero_sum (λ sector. if is_passed g block 0 (live_record g cells sector) then get_reads g (live_record g cells sector) else 0) g.sectors
      (λ k h. ap (λ (t : Bool). if t then get_reads g (live_record g cells k) else 0) (none_passed g block (live_record g cells k)))

  -- a slot without a live record
  pub scanned_skip : (cursor : ℕ) (records : List Placed)
      → ((sector : ℕ) (y : Placed) → live_record g cells sector ≡ Some y → block_of g y.place.page ≡ block → number_of g y.place ≢ cursor)
      → Scanned g cells block cursor records → Scanned g cells block (cursor + 1) records
  scanned_skip cursor records none s = record {
    live = s.live;
    inside = s.inside;
    passed = λ i h. omega (arith, s.passed i h);
    ordered = s.ordered;
    all = λ sector placed e f h. s.all sector placed e f (let apart : number_of g placed.place ≢ cursor = none sector placed e f in omega arith);
    count = s.count ∙ sym (same_count _ (λ sector. is_passed g block cursor (live_record g cells sector)) g.sectors (λ k h. passed_same g block cursor (live_record g cells k) (none k)));
  }

  pub gets_skip : (cursor : ℕ) → ((sector : ℕ) (y : Placed) → live_record g cells sector ≡ Some y → block_of g y.place.page ≡ block → number_of g y.place ≢ cursor)
      → passed_gets g cells block (cursor + 1) ≡ passed_gets g cells block cursor
  gets_skip cursor none = same_sum (λ sector. if is_passed g block cursor (live_record g cells sector) then get_reads g (live_record g cells sector) else 0) _ g.sectors
      (λ k h. ap (λ (t : Bool). if t then get_reads g (live_record g cells k) else 0) (passed_same g block cursor (live_record g cells k) (none k)))

  -- a slot with a live record
  module _ (one : 1 ≤ g.generations) (cursor : ℕ) (x : Placed) (live : live_record g cells x.header.sector ≡ Some x) (here : block_of g x.place.page ≡ block) (at : number_of g x.place ≡ cursor) where
    -- no other sector's live record has its number
    other : (sector : ℕ) → sector ≢ x.header.sector → (y : Placed) → live_record g cells sector ≡ Some y → block_of g y.place.page ≡ block → number_of g y.place ≢ cursor
    other sector apart y e f same = apart (
        let one_record = number_apart g cells one block sector x.header.sector y x e live f here (same ∙ sym at) in
        sym (live_so g cells sector y e).of_sector ∙ ap (λ (z : Placed). z.header.sector) one_record)

    was_not : is_passed g block cursor (live_record g cells x.header.sector) ≡ false
    was_not = ap (is_passed g block cursor) live ∙ passed_no g block cursor x (omega (arith, at))

    is_now : is_passed g block (cursor + 1) (live_record g cells x.header.sector) ≡ true
    is_now = ap (is_passed g block (cursor + 1)) live ∙ passed_yes g block (cursor + 1) x here (omega (arith, at))

    pub count_take : passed_count g cells block (cursor + 1) ≡ passed_count g cells block cursor + 1
    count_take = count_rises (λ sector. is_passed g block cursor (live_record g cells sector)) (λ sector. is_passed g block (cursor + 1) (live_record g cells sector)) g.sectors x.header.sector
        (live_so g cells x.header.sector x live).within was_not is_now
        (λ k h apart. sym (passed_same g block cursor (live_record g cells k) (other k apart)))

    pub gets_take : passed_gets g cells block (cursor + 1) ≡ passed_gets g cells block cursor + get_reads g (Some x)
    gets_take = sum_rises
        (λ sector. if is_passed g block cursor (live_record g cells sector) then get_reads g (live_record g cells sector) else 0)
        (λ sector. if is_passed g block (cursor + 1) (live_record g cells sector) then get_reads g (live_record g cells sector) else 0)
        g.sectors x.header.sector (get_reads g (Some x)) (live_so g cells x.header.sector x live).within
        (ap (λ (t : Bool). if t then get_reads g (live_record g cells x.header.sector) else 0) is_now ∙ (ap (get_reads g) live ∙ (sym (zero-add (get_reads g (Some x)))
        ∙ ap (λ (z : ℕ). z + get_reads g (Some x)) (sym (ap (λ (t : Bool). if t then get_reads g (live_record g cells x.header.sector) else 0) was_not)))))
        (λ k h apart. ap (λ (t : Bool). if t then get_reads g (live_record g cells k) else 0) (passed_same g block cursor (live_record g cells k) (other k apart)))

    pub scanned_take : (records : List Placed) → Scanned g cells block cursor records → Scanned g cells block (cursor + 1) (records ++ x ∷ [])
    scanned_take records s = record {
      live = λ i h. elim (which i h) [
        | inl was ↦ subst (λ (z : Placed). live_record g cells z.header.sector ≡ Some z) (sym (nth_front records x i was)) (s.live i was)
        | inr last ↦ subst (λ (z : Placed). live_record g cells z.header.sector ≡ Some z) (sym (nth_last records x i last)) live
      ];
      inside = λ i h. elim (which i h) [
        | inl was ↦ subst (λ (z : Placed). block_of g z.place.page ≡ block) (sym (nth_front records x i was)) (s.inside i was)
        | inr last ↦ subst (λ (z : Placed). block_of g z.place.page ≡ block) (sym (nth_last records x i last)) here
      ];
      passed = λ i h. elim (which i h) [
        | inl was ↦ subst (λ (z : Placed). number_of g z.place < cursor + 1) (sym (nth_front records x i was)) (omega (arith, s.passed i was))
        | inr last ↦ subst (λ (z : Placed). number_of g z.place < cursor + 1) (sym (nth_last records x i last)) (omega (arith, at))
      ];
      ordered = λ i j h k.
          let was_i : i < length records = omega (arith, h, k, length_push records x) in
          subst (λ (z : Placed). number_of g z.place < number_of g (nth (records ++ x ∷ []) j).place) (sym (nth_front records x i was_i)) (elim (which j k) [
            | inl was ↦ subst (λ (z : Placed). number_of g (nth records i).place < number_of g z.place) (sym (nth_front records x j was)) (s.ordered i j h was)
            | inr last ↦ subst (λ (z : Placed). number_of g (nth records i).place < number_of g z.place) (sym (nth_last records x j last)) (omega (arith, s.passed i was_i, at))
          ]);
      all = λ sector placed e f h. elim (cases_eq (number_of g placed.place) cursor) [
        | inl same ↦ (
          length records,
          omega (arith, length_push records x),
          nth_last records x (length records) refl ∙ number_apart g cells one block x.header.sector sector x placed live e here f (at ∙ sym same),
        )
        | inr apart ↦ (let found = s.all sector placed e f (omega (arith, h, apart)) in (found.0, omega (arith, found.1, length_push records x), nth_front records x found.0 found.1 ∙ found.2))
      ];
      count = length_push records x ∙ (ap (λ (n : ℕ). n + 1) s.count ∙ sym count_take);
    }
      where
        which : (i : ℕ) → i < length (records ++ x ∷ []) → (i < length records) ⊎ (i ≡ length records)
        which i h = elim (cases_lt i (length records)) [ inl was ↦ inl was | inr past ↦ inr (omega (arith, h, past, length_push records x)) ]

-- ---- all of it

-- what was passed stands in the block
passed_stands : (g : Geometry) (block cursor : ℕ) (o : Option Placed) → is_passed g block cursor o ≡ true → stands_in g block o ≡ true
passed_stands g block cursor None e = absurd (false≢true e)
passed_stands g block cursor (Some y) e = (and_parts _ _ e).0

within_block : (g : Geometry) (place : Place) → 0 < g.pages → place.slot < g.generations → number_of g place < g.pages * g.generations
within_block g place some slot =
    let low : place.page % g.pages + 1 ≤ g.pages = omega arith in
    omega (arith, mul-le-mul_right g.generations low, suc-mul (place.page % g.pages) g.generations)

module _ (g : Geometry) (cells : List (List ℕ)) (block : ℕ) (some : 0 < g.pages) (one : 1 ≤ g.generations) where
  end_same : (sector : ℕ) → is_passed g block (g.pages * g.generations) (live_record g cells sector) ≡ stands_in g block (live_record g cells sector)
  end_same sector = at (live_record g cells sector) refl
    where
      at : (o : Option Placed) → live_record g cells sector ≡ o → is_passed g block (g.pages * g.generations) o ≡ stands_in g block o
      at None e = refl
      at (Some y) e = ap (λ (t : Bool). block_of g y.place.page == block && t) (lt-ltb _ _ (within_block g y.place some (slot_in g cells one sector y e))) ∙ yes (block_of g y.place.page == block)
        where
          yes : (t : Bool) → (t && true) ≡ t
          yes true = refl
          yes false = refl

  -- past the last slot all are passed
  pub count_end : passed_count g cells block (g.pages * g.generations) ≡ live_count g cells block
  unfolding live_count
  count_end = same_count _ (λ sector. stands_in g block (live_record g cells sector)) g.sectors (λ k h. end_same k)

  pub gets_end : passed_gets g cells block (g.pages * g.generations)
      ≡ sum_by (λ sector. if stands_in g block (live_record g cells sector) then get_reads g (live_record g cells sector) else 0) (range_with_len 0 g.sectors)
  gets_end = same_sum (λ sector. if stands_in g block (live_record g cells sector) then get_reads g (live_record g cells sector) else 0) _ g.sectors
      (λ k h. ap (λ (t : Bool). if t then get_reads g (live_record g cells k) else 0) (end_same k))

  pub scanned_end : (records : List Placed) → Scanned g cells block (g.pages * g.generations) records → AreLiveOf g cells block records
  scanned_end records s = record {
    live = s.live;
    inside = λ i h. eq-eqb _ _ (s.inside i h);
    ordered = λ i j h k.
        let first : i < length records = omega (arith, h, k) in
        before_from g cells one block _ _ _ _ (s.live i first) (s.live j k) (s.inside i first) (s.inside j k) (s.ordered i j h k);
    all = λ sector placed e f. s.all sector placed e (eqb-true _ _ f) (within_block g placed.place some (slot_in g cells one sector placed e));
  }

  -- at most all are passed
  pub count_few : (cursor : ℕ) → passed_count g cells block cursor ≤ live_count g cells block
  unfolding live_count
  count_few cursor = sum_lower (λ sector. cond (is_passed g block cursor (live_record g cells sector)) 1 0) (λ sector. cond (stands_in g block (live_record g cells sector)) 1 0) g.sectors (λ k.
      weigh (is_passed g block cursor (live_record g cells k)) (stands_in g block (live_record g cells k)) (passed_stands g block cursor (live_record g cells k)))
    where
      weigh : (s t : Bool) → (s ≡ true → t ≡ true) → cond s 1 0 ≤ cond t 1 0
      weigh false t f = omega arith
      weigh true t f = subst (λ (z : Bool). 1 ≤ cond z 1 0) (sym (f refl)) (omega arith)

  pub gets_few : (cursor : ℕ) → passed_gets g cells block cursor
      ≤ sum_by (λ sector. if stands_in g block (live_record g cells sector) then get_reads g (live_record g cells sector) else 0) (range_with_len 0 g.sectors)
  gets_few cursor = sum_lower (λ sector. if is_passed g block cursor (live_record g cells sector) then get_reads g (live_record g cells sector) else 0) _ g.sectors (λ k.
      weigh (get_reads g (live_record g cells k)) (is_passed g block cursor (live_record g cells k)) (stands_in g block (live_record g cells k)) (passed_stands g block cursor (live_record g cells k)))
    where
      weigh : (w : ℕ) (s t : Bool) → (s ≡ true → t ≡ true) → (if s then w else 0) ≤ (if t then w else 0)
      weigh w false t f = omega arith
      weigh w true t f = subst (λ (z : Bool). w ≤ (if z then w else 0)) (sym (f refl)) (omega arith)
