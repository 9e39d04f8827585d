-- A run of the recycling rule keeps a true book true: a due block becomes Recycled, one level higher, where the slots above its old
-- level are blank and no live record stands.
use Rattle.std.proofs.Common.{◌≡◌, ◌≢◌, inl, inr, ℕ, ◌+◌, ◌<◌, ◌≤◌, true, cond, List, length, get_or, if◌then◌else◌, Option, Some, refl, sym, ap, ◌∙◌, subst, arith, get_or-set_same, get_or-set_other}
use Rattle.std.specs.List.{count_by, range_with_len}
use Rattle.std.proofs.lemmas.Bool.{cases_eq, eq-eqb, false≢true}
use Rattle.std.proofs.lemmas.List.{length-set}
use Rattle.std.proofs.lemmas.List.FromFn.{get_or-range_with_len, length-range_with_len}
use Rattle.std.proofs.lemmas.List.Sums.{get_or-le-sum_by}
use Rattle.sector_map.specs.declared.entry.Entry.{Entry}
use Rattle.block_state.specs.declared.state.State.{State}
use Rattle.block_state.specs.declared.state.State.TheVariants.{Clean, Active, Used, Recycled, Reused, Spare}
use Rattle.block_state.specs.State.{is_closed, is_active, is_spare, InRange}
use Rattle.block_state.specs.Book.{BookValue, HasOneSpare, IsValid, state_at, with_state, reordered}
use Rattle.reuse_pool.specs.Offer.{is_recycled}
use Rattle.reuse_pool.specs.Recycling.{IsDue, Recycles, is_used, recycled}
use Rattle.reuse_pool.proofs.Steps.{due_within, kept_by_run, settled_by_run}
use Rattle.page_codec.specs.Geometry.{Geometry, block_of, units}
use Rattle.page_codec.specs.Records.{Placed, live_record}
use Rattle.page_codec.specs.Sound.{stands_in, live_count}
use Rattle.page_codec.specs.TrueBook.{IsTrue, IsTrueBook, IsTrueRecycled, IsTrueState, IsTrueUsed, RecyclingDone, is_recycled as is_recycled_state}

-- ---- a block with a live record

pub stands_counted : (g : Geometry) (cells : List (List ℕ)) (block sector : ℕ) (placed : Placed) → sector < g.sectors → live_record g cells sector ≡ Some placed
    → block_of g placed.place.page ≡ block → 0 < live_count g cells block
unfolding live_count
stands_counted g cells block sector placed inside is at =
    let ones : ℕ → ℕ = λ s. cond (stands_in g block (live_record g cells s)) 1 0 in
    let here : get_or (range_with_len 0 g.sectors) sector 0 ≡ sector = get_or-range_with_len 0 g.sectors sector 0 inside ∙ omega arith in
    let one : ones (get_or (range_with_len 0 g.sectors) sector 0) ≡ 1
    = ap ones here ∙ (ap (λ o. cond (stands_in g block o) 1 0) is ∙ ap (λ t. cond t 1 0) (eq-eqb (block_of g placed.place.page) block at)) in
    omega (arith, get_or-le-sum_by ones (range_with_len 0 g.sectors) sector 0 (subst (λ n. sector < n) (sym (length-range_with_len 0 g.sectors)) inside), one)

-- ---- a due block

-- the state of a due block is Used
used_due : (s : State) → is_used s ≡ true → (level : ℕ) × (s ≡ Used level)
used_due Clean used = absurd (false≢true used)
used_due (Active fill) used = absurd (false≢true used)
used_due (Used level) used = (level, refl)
used_due (Recycled level next) used = absurd (false≢true used)
used_due Reused used = absurd (false≢true used)
used_due (Spare blank) used = absurd (false≢true used)

recycled_true : (g : Geometry) (cells : List (List ℕ)) (block level : ℕ) → 0 < units g → live_count g cells block ≡ 0 → IsTrueUsed g cells block level → IsTrueRecycled g cells block (level + 1) 0
recycled_true g cells block level some none used = record {
  low = omega arith;
  high = omega (arith, used.may_rise);
  more = some;
  blank = λ u later inside. used.above u (level + 1) inside (omega arith) (omega (arith, used.may_rise));
  above = λ u slot inside more less. used.above u slot inside (omega arith) less;
  live = λ sector placed inside is at. absurd (let one = stands_counted g cells block sector placed inside is at in omega (arith, one, none));
}

module _ (v : BookValue) (b : ℕ) (due : IsDue v b) where
  abbrev after : BookValue
  after = with_state v b (recycled (state_at v b))

  used : (level : ℕ) × (state_at v b ≡ Used level)
  used = used_due (state_at v b) due.0

  within : b < length v.states
  within = due_within v b due

  now : state_at after b ≡ Recycled (used.0 + 1) 0
  now = get_or-set_same v.states b (recycled (state_at v b)) Clean within ∙ ap recycled used.1

  other : (c : ℕ) → c ≢ b → state_at after c ≡ state_at v c
  other c apart = get_or-set_other v.states b c (recycled (state_at v b)) Clean apart

  -- what a state says of a block that was Used and is Recycled, or stayed
  each : (P : State → State → Type 0) → ((s : State) → P s s) → P (Used used.0) (Recycled (used.0 + 1) 0) → (c : ℕ) → P (state_at v c) (state_at after c)
  each P same there c = elim (cases_eq c b) [
    | inl here ↦ subst (λ d. P (state_at v d) (state_at after d)) (sym here) (subst (λ s. P s (state_at after b)) (sym used.1) (subst (P (Used used.0)) (sym now) there))
    | inr apart ↦ subst (P (state_at v c)) (sym (other c apart)) (same (state_at v c))
  ]

  same_closed : (c : ℕ) → is_closed (state_at after c) ≡ is_closed (state_at v c)
  same_closed = each (λ s t. is_closed t ≡ is_closed s) (λ s. refl) refl

  same_active : (c : ℕ) → is_active (state_at after c) ≡ is_active (state_at v c)
  same_active = each (λ s t. is_active t ≡ is_active s) (λ s. refl) refl

  same_spare : (c : ℕ) → is_spare (state_at after c) ≡ is_spare (state_at v c)
  same_spare = each (λ s t. is_spare t ≡ is_spare s) (λ s. refl) refl

  same_order : after.order ≡ v.order
  same_order = ap (λ s. reordered (is_closed s) (is_closed (recycled s)) b v.order) used.1

  pub valid_after : IsValid v → IsValid after
  valid_after valid = record {
    few_blocks = omega (arith, length-set v.states b (recycled (state_at v b)), valid.few_blocks);
    few_pages = valid.few_pages;
    few_units = valid.few_units;
    two_generations = valid.two_generations;
    three_generations = valid.three_generations;
    counts = valid.counts ∙ sym (length-set v.states b (recycled (state_at v b)));
    few_live = valid.few_live;
    in_range = λ c. elim (cases_eq c b) [
      | inl here ↦ subst (λ d. InRange v.pages v.units v.generations (state_at after d)) (sym here) (subst (InRange v.pages v.units v.generations) (sym now) (
          let rises : used.0 + 2 ≤ v.generations = subst (InRange v.pages v.units v.generations) used.1 (valid.in_range b) in
          (omega arith, omega (arith, rises), due.2)))
      | inr apart ↦ subst (InRange v.pages v.units v.generations) (sym (other c apart)) (valid.in_range c)
    ];
    ordered = λ c. (subst (λ xs. IsValid (record v { order = xs })) (sym same_order) valid).ordered c ∙ ap (λ t. if t then 1 else 0) (sym (same_closed c));
    one_active = λ c d c_is d_is. valid.one_active c d (sym (same_active c) ∙ c_is) (sym (same_active d) ∙ d_is);
  }

  one_spare_after : HasOneSpare v → HasOneSpare after
  one_spare_after one = (one.0, same_spare one.0 ∙ one.1, λ c spare. one.2 c (sym (same_spare c) ∙ spare))

  pub true_after : (g : Geometry) (cells : List (List ℕ)) (table : List (Option Entry)) (seq : ℕ) → IsTrue g cells v table seq → IsTrue g cells after table seq
  true_after g cells table seq is = record {
    live_counts = is.live_counts;
    entries = is.entries;
    one_spare = one_spare_after is.one_spare;
    states = λ c inside. elim (cases_eq c b) [
      | inl here ↦ subst (λ d. IsTrueState g cells d (state_at after d)) (sym here) (subst (IsTrueState g cells b) (sym now) (recycled_true g cells b used.0 some none there))
      | inr apart ↦ subst (IsTrueState g cells c) (sym (other c apart)) (is.states c inside)
    ];
    kept = valid_after is.kept;
    next_seq = is.next_seq;
    sizes = record { blocks = length-set v.states b (recycled (state_at v b)) ∙ is.sizes.blocks; pages = is.sizes.pages; units = is.sizes.units; generations = is.sizes.generations };
  }
    where
      in_blocks : b < g.blocks
      in_blocks = subst (λ n. b < n) is.sizes.blocks within

      some : 0 < units g
      some = subst (λ n. 0 < n) is.sizes.units due.2

      none : live_count g cells b ≡ 0
      none = sym (is.live_counts b in_blocks) ∙ due.1

      there : IsTrueUsed g cells b used.0
      there = subst (IsTrueState g cells b) used.1 (is.states b in_blocks)

-- ---- a run

pub true_by_run : (g : Geometry) (cells : List (List ℕ)) (table : List (Option Entry)) (seq few : ℕ) (v w : BookValue) → Recycles few v w → IsTrue g cells v table seq → IsTrue g cells w table seq
true_by_run g cells table seq few v w run is =
    kept_by_run few (λ u. IsTrue g cells u table seq) (λ u b fewer due held. true_after u b due g cells table seq held) v w run is

same_recycled : (s : State) → is_recycled s ≡ is_recycled_state s
same_recycled Clean = refl
same_recycled (Active fill) = refl
same_recycled (Used level) = refl
same_recycled (Recycled level next) = refl
same_recycled Reused = refl
same_recycled (Spare blank) = refl

pub done_by_run : (few : ℕ) (v w : BookValue) → 0 < w.units → Recycles few v w → RecyclingDone few w
done_by_run few v w some run block level is none =
    subst (λ n. few ≤ n) (λ i. count_by (λ s. same_recycled s i) w.states)
    (settled_by_run few v w run block (ap is_used is, none, some))

-- the true book between calls
pub true_book_by_run : (g : Geometry) (cells : List (List ℕ)) (table : List (Option Entry)) (seq few : ℕ) (v w : BookValue) → 0 < units g → Recycles few v w → IsTrue g cells v table seq
    → IsTrueBook g few cells w table seq
true_book_by_run g cells table seq few v w some run is =
    let kept = true_by_run g cells table seq few v w run is in
    record { tables = kept; recycling_done = done_by_run few v w (subst (λ n. 0 < n) (sym kept.sizes.units) some) run }
