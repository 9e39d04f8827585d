-- What `page_alloc` and `reuse_pool` answer is what the rules give.
use Rattle.std.proofs.Common.{◌≡◌, ◌⊎◌, inl, inr, ℕ, zero, suc, ◌+◌, ◌*◌, ◌<◌, ◌≤◌, Bool, true, false, cond, eqb, ltb, List, [], ◌∷◌, length, get_or, Some, None, if◌then◌else◌, refl, sym, ap}
use Rattle.std.proofs.Common.{◌∙◌, subst, arith}
use Rattle.std.specs.List.{fold, reduce, position_or_len}
use Rattle.std.proofs.lemmas.Bool.{cases_eq, cases_lt, cases_Bool, eq-eqb, ne_eqb, false≢true}
use Rattle.std.proofs.lemmas.Bool.Decides.{nat_tests}
use Rattle.std.proofs.lemmas.List.{get_or_past}
use Rattle.block_links.specs.Lists.{times}
use Rattle.block_links.proofs.Times.{times-head, times-tail}
use Rattle.block_state.specs.declared.state.State.{State}
use Rattle.block_state.specs.declared.state.State.TheVariants.{Clean, Active, Used, Recycled, Reused, Spare}
use Rattle.block_state.specs.State.{is_active, is_closed, is_spare}
use Rattle.block_state.specs.Book.{BookValue, state_at, live_at, IsActive, IsClosed, IsValid, HasOneSpare, NoneActive}
use Rattle.block_state.specs.Victim.{IsVictim}
use Rattle.page_alloc.specs.declared.next_page.NextPage.{NextPage}
use Rattle.page_alloc.specs.declared.next_page.NextPage.TheVariants.{Page, Take, Wipe, Collect}
use Rattle.page_alloc.specs.CleanPage.{IsNext, NoneOpen}
use Rattle.reuse_pool.specs.declared.unit.ReuseUnit.{ReuseUnit}
use Rattle.reuse_pool.specs.Offer.{is_recycled, IsOffer, NoneRecycledBelow}
use Rattle.mount_scan.specs.Settled.{is_clean}
use Rattle.collector.specs.Effects.{fill_of}
use Rattle.rssd_core.specs.Rules.{first_block, victim_of, from_active, from_clean, from_victim, next_page, unit_in, unit_of, offer_of}

-- ---- the first place at which a test passes

first_place : {X : Type 0} (p : X → Bool) (d : X) (xs : List X) (i : ℕ) → i < length xs → p (get_or xs i d) ≡ true → ((k : ℕ) → k < i → p (get_or xs k d) ≡ false) → position_or_len p xs ≡ i
first_place p d [] i within hit below = absurd (omega arith)
first_place p d (x ∷ xs) zero within hit below = rw hit
first_place p d (x ∷ xs) (suc i) within hit below =
    rw (below 0 (omega arith)) (omega (arith, first_place p d xs i (omega arith) hit (λ k lt. below (suc k) (omega arith))))

no_place : {X : Type 0} (p : X → Bool) (d : X) (xs : List X) → ((k : ℕ) → k < length xs → p (get_or xs k d) ≡ false) → position_or_len p xs ≡ length xs
no_place p d [] none = refl
no_place p d (x ∷ xs) none = rw (none 0 (omega arith)) (omega (arith, no_place p d xs (λ k lt. none (suc k) (omega arith))))

not_true : (b : Bool) → (b ≡ true → ⊥) → b ≡ false
not_true true never = absurd (never refl)
not_true false never = refl

module _ (v : BookValue) (test : State → Bool) where
  first_is : (b : ℕ) → b < length v.states → test (state_at v b) ≡ true → ((c : ℕ) → c < b → test (state_at v c) ≡ true → ⊥) → first_block test v ≡ Some b
  first_is b within hit below =
      let e = first_place test Clean v.states b within hit (λ c lt. not_true (test (state_at v c)) (below c lt)) in
      let t : ltb b (length v.states) ≡ true = grind (arith, nat_tests) in
      ap (λ n. cond (ltb n (length v.states)) (Some n) None) e ∙ ap (λ t. cond t (Some b) None) t

  pub first_none : ((b : ℕ) → b < length v.states → test (state_at v b) ≡ true → ⊥) → first_block test v ≡ None
  first_none none =
      let e = no_place test Clean v.states (λ c lt. not_true (test (state_at v c)) (none c lt)) in
      let t : ltb (length v.states) (length v.states) ≡ false = grind (arith, nat_tests) in
      ap (λ n. cond (ltb n (length v.states)) (Some n) None) e ∙ ap (λ t. cond t (Some (length v.states)) None) t

  -- a block whose state is not that of one past the last is one of the book's
  in_range : test Clean ≡ false → (b : ℕ) → test (state_at v b) ≡ true → b < length v.states
  in_range clean b hit = elim (cases_lt b (length v.states)) [
    | inl within ↦ within
    | inr past ↦ absurd (false≢true (sym clean ∙ (ap test (sym (get_or_past v.states b Clean past)) ∙ hit)))
  ]

-- ---- the victim

-- b is in the list, with fewer than each before it and at most as many as each after it
abbrev IsFirstLeast : (ℕ → ℕ) → ℕ → List ℕ → Type 0
IsFirstLeast f b [] = ⊥
IsFirstLeast f b (x ∷ xs) = ((x ≡ b) × ((c : ℕ) → 0 < times c xs → f b ≤ f c)) ⊎ ((f b < f x) × IsFirstLeast f b xs)

abbrev pick : (ℕ → ℕ) → ℕ → ℕ → ℕ
pick f a b = cond (ltb (f b) (f a)) b a

more_times : (c x : ℕ) (xs : List ℕ) → 0 < times c xs → 0 < times c (x ∷ xs)
more_times c x xs some = omega arith

fold_first : (f : ℕ → ℕ) (b a : ℕ) (xs : List ℕ) → IsFirstLeast f b (a ∷ xs) → fold (pick f) a xs ≡ b
fold_first f b a [] (inl here) = here.0
fold_first f b a [] (inr later) = absurd later.1
fold_first f b a (x ∷ xs) (inl here) =
    let le : f b ≤ f x = here.1 x (omega (arith, times-head x xs)) in
    let same : f a ≡ f b = ap f here.0 in
    let t : ltb (f x) (f a) ≡ false = grind (arith, nat_tests) in
    rw t (fold_first f b a xs (inl (here.0, λ c some. here.1 c (more_times c x xs some))))
fold_first f b a (x ∷ xs) (inr later) = elim later.1 [
  | inl here ↦
      let same : f x ≡ f b = ap f here.0 in
      let lt : f b < f a = later.0 in
      let t : ltb (f x) (f a) ≡ true = grind (arith, nat_tests) in
      rw t (fold_first f b x xs (inl here))
  | inr still ↦ elim (cases_Bool (ltb (f x) (f a))) [
    | inl t ↦ rw t (fold_first f b x xs (inr still))
    | inr t ↦ rw t (fold_first f b a xs (inr (later.0, still.1)))
  ]
]

abbrev place : ℕ → List ℕ → ℕ
place c xs = position_or_len (λ x. eqb x c) xs

place-head : (x : ℕ) (xs : List ℕ) → place x (x ∷ xs) ≡ 0
place-head x xs = rw (eq-eqb x x refl)

place-tail : (c x : ℕ) (xs : List ℕ) → (x ≡ c → ⊥) → place c (x ∷ xs) ≡ suc (place c xs)
place-tail c x xs other = rw (ne_eqb x c other) (omega arith)

least_first : (f : ℕ → ℕ) (b : ℕ) (xs : List ℕ) → 0 < times b xs → ((c : ℕ) → 0 < times c xs → f b ≤ f c) → ((c : ℕ) → 0 < times c xs → f c ≡ f b → place b xs ≤ place c xs) → IsFirstLeast f b xs
least_first f b [] some least oldest = absurd (omega arith)
least_first f b (x ∷ xs) some least oldest = elim (cases_eq x b) [
  | inl same ↦ inl (same, λ c there. least c (more_times c x xs there))
  | inr other ↦ inr (strict other, least_first f b xs (subst (λ n. 0 < n) (times-tail b x xs other) some) (λ c there. least c (more_times c x xs there)) (later other))
]
  where
    here : 0 < times x (x ∷ xs)
    here = omega (arith, times-head x xs)

    strict : (x ≡ b → ⊥) → f b < f x
    strict other = elim (cases_lt (f b) (f x)) [
      | inl lt ↦ lt
      | inr ge ↦
          let le = least x here in
          let h : place b (x ∷ xs) ≤ place x (x ∷ xs) = oldest x here (omega arith) in
          omega (arith, h, place-tail b x xs other, place-head x xs)
    ]

    later : (x ≡ b → ⊥) → (c : ℕ) → 0 < times c xs → f c ≡ f b → place b xs ≤ place c xs
    later other c there same = elim (cases_eq x c) [
      | inl e ↦ let lt = strict other in let s : f x ≡ f c = ap f e in omega arith
      | inr apart ↦
          let h : place b (x ∷ xs) ≤ place c (x ∷ xs) = oldest c (more_times c x xs there) same in
          omega (arith, h, place-tail b x xs other, place-tail c x xs apart)
    ]

module _ (v : BookValue) (valid : IsValid v) where
  -- a block stands in the order exactly where it is closed
  closed_times : (b : ℕ) → IsClosed v b → times b v.order ≡ 1
  closed_times b closed = valid.ordered b ∙ ap (λ t. cond t 1 0) closed

  times_closed : (b : ℕ) → 0 < times b v.order → IsClosed v b
  times_closed b some = elim (cases_Bool (is_closed (state_at v b))) [
    | inl closed ↦ closed
    | inr opened ↦ let e : times b v.order ≡ 0 = valid.ordered b ∙ ap (λ t. cond t 1 0) opened in absurd (omega arith)
  ]

reduce_first : (f : ℕ → ℕ) (b : ℕ) (xs : List ℕ) → IsFirstLeast f b xs → reduce (pick f) xs ≡ Some b
reduce_first f b [] is = absurd is
reduce_first f b (a ∷ xs) is = ap Some (fold_first f b a xs is)

pub victim_is : (v : BookValue) → IsValid v → (b : ℕ) → IsVictim v b → victim_of v ≡ Some b
victim_is v valid b is =
    reduce_first (live_at v) b v.order
    (least_first (live_at v) b v.order (let once = closed_times v valid b is.closed in omega arith) (λ c there. is.fewest c (times_closed v valid c there) (omega arith))
    (λ c there same. is.oldest c (times_closed v valid c there) same))

-- ---- the next page

module _ (v : BookValue) (valid : IsValid v) where
  pub active_is : (b : ℕ) → IsActive v b → first_block is_active v ≡ Some b
  active_is b active = first_is v is_active b (in_range v is_active refl b active) active (λ c lt other. let same = valid.one_active c b other active in omega arith)

  no_active : NoneActive v → first_block is_active v ≡ None
  no_active none = first_none v is_active (λ b within active. none b active)

  spare_is : HasOneSpare v → (b : ℕ) → is_spare (state_at v b) ≡ true → first_block is_spare v ≡ Some b
  spare_is one b spare = first_is v is_spare b (in_range v is_spare refl b spare) spare (λ c lt other. let first = one.2 c other in let second = one.2 b spare in omega arith)

clean_is : (s : State) → is_clean s ≡ true → s ≡ Clean
clean_is Clean is = refl
clean_is (Active fill) is = absurd (false≢true is)
clean_is (Used level) is = absurd (false≢true is)
clean_is (Recycled level next) is = absurd (false≢true is)
clean_is Reused is = absurd (false≢true is)
clean_is (Spare blank) is = absurd (false≢true is)

-- where no block is Active or Clean the victim decides
to_victim : (v : BookValue) → IsValid v → HasOneSpare v → (b spare : ℕ) → NoneOpen v → IsVictim v b → is_spare (state_at v spare) ≡ true → next_page v ≡ from_victim v (Some b) (Some spare)
unfolding next_page
to_victim v valid one b spare none victim is =
    ap (from_active v) (no_active v valid none.0)
    ∙ (ap (from_clean v) (first_none v is_clean (λ c within clean. none.1 c within (within, clean_is (state_at v c) clean)))
    ∙ (ap (λ o. from_victim v o (first_block is_spare v)) (victim_is v valid b victim) ∙ ap (from_victim v (Some b)) (spare_is v valid one spare is)))

-- what `next` answers is the next page
pub next_is : (v : BookValue) → IsValid v → HasOneSpare v → (n : NextPage) → IsNext v n → next_page v ≡ n
unfolding next_page
next_is v valid one (Page page) (b, fill, state, is) =
    ap (from_active v) (active_is v valid b (ap is_active state)) ∙ (ap (λ s. Page (b * v.pages + fill_of s)) state ∙ ap Page (sym is))
next_is v valid one (Take b) (none, clean, below) =
    ap (from_active v) (no_active v valid none)
    ∙ ap (from_clean v) (first_is v is_clean b clean.0 (ap is_clean clean.1) (λ c lt other. below c lt (let w = clean.0 in omega arith, clean_is (state_at v c) other)))
next_is v valid one (Wipe b) (none, victim, free) =
    to_victim v valid one b one.0 none victim one.1 ∙ ap (λ t. if t then Wipe b else Collect b one.0) (eq-eqb (live_at v b) 0 free)
next_is v valid one (Collect b spare) (none, victim, some, is) =
    to_victim v valid one b spare none victim is ∙ ap (λ t. if t then Wipe b else Collect b spare) (ne_eqb (live_at v b) 0 (λ e. omega arith))

-- ---- the offer

-- what `offer` answers is the offer
pub offer_is : (v : BookValue) (unit : ReuseUnit) → IsOffer v unit → offer_of v ≡ Some unit
unfolding offer_of
offer_is v unit (within, state, below) =
    ap (unit_in v) (first_is v is_recycled unit.block within (ap is_recycled state) below) ∙ ap (unit_of unit.block) state

pub no_offer_is : (v : BookValue) → NoneRecycledBelow v (length v.states) → offer_of v ≡ None
unfolding offer_of
no_offer_is v none = ap (unit_in v) (first_none v is_recycled none)
