-- A book stays valid where a block gets another state or live count, and what the record effect makes of its live counts.
use Rattle.std.proofs.Common.{◌≡◌, ◌≢◌, ◌⊎◌, inl, inr, ℕ, ◌+◌, ◌-◌, ◌*◌, ◌<◌, ◌≤◌, Bool, true, false, cond, IsTrue, if◌then◌else◌, ◌==◌, List, [], ◌∷◌, ◌++◌, length, Option, Some, None, refl}
use Rattle.std.proofs.Common.{sym, ap, ◌∙◌, subst, arith, get_or-set_same, get_or-set_other, length-set}
use Rattle.std.proofs.lemmas.Bool.{cases_eq, cases_lt, eq-eqb, ne_eqb, false≢true}
use Rattle.std.proofs.lemmas.List.{get_or_past}
use Rattle.block_links.specs.Lists.{times, without}
use Rattle.block_state.specs.declared.state.State.{State}
use Rattle.block_state.specs.declared.state.State.TheVariants.{Clean, Active}
use Rattle.block_state.specs.State.{is_closed, is_active, is_spare, InRange}
use Rattle.block_state.specs.Book.{BookValue, IsValid, IsActive, IsSpare, HasOneSpare, state_at, live_at, with_state, with_live}
use Rattle.block_state.proofs.Order.{times-reordered_same, times-reordered_other, times-moved_back}
use Rattle.collector.specs.Effects.{recorded, MayDrop}

-- ---- a block gets another state

pub state_here : (v : BookValue) (b : ℕ) (s : State) → b < length v.states → state_at (with_state v b s) b ≡ s
state_here v b s within = get_or-set_same v.states b s Clean within

pub state_there : (v : BookValue) (b c : ℕ) (s : State) → c ≢ b → state_at (with_state v b s) c ≡ state_at v c
state_there v b c s other = get_or-set_other v.states b c s Clean other

-- a block that is not Clean is one of the blocks
pub active_within : (v : BookValue) (b fill : ℕ) → state_at v b ≡ Active fill → b < length v.states
active_within v b fill e = elim (cases_lt b (length v.states)) [
  | inl within ↦ within
  | inr past ↦ absurd (false≢true (sym (ap is_active (get_or_past v.states b Clean past)) ∙ ap is_active e))
]

pub spare_within : (v : BookValue) (b : ℕ) → IsSpare v b → b < length v.states
spare_within v b e = elim (cases_lt b (length v.states)) [
  | inl within ↦ within
  | inr past ↦ absurd (false≢true (sym (ap is_spare (get_or_past v.states b Clean past)) ∙ e))
]

pub valid_state : (v : BookValue) (b : ℕ) (s : State) → IsValid v → b < length v.states → InRange v.pages v.units v.generations s
    → (IsTrue (is_active s) → (c : ℕ) → IsActive v c → c ≡ b) → IsValid (with_state v b s)
valid_state v b s valid within fits one = record {
  few_blocks = omega (arith, length-set v.states b s, valid.few_blocks);
  few_pages = valid.few_pages;
  few_units = valid.few_units;
  two_generations = valid.two_generations;
  three_generations = valid.three_generations;
  counts = valid.counts ∙ sym (length-set v.states b s);
  few_live = valid.few_live;
  in_range = λ c. elim (cases_eq c b) [
    | inl same ↦ subst (InRange v.pages v.units v.generations) (sym (at_same c same)) fits
    | inr other ↦ subst (InRange v.pages v.units v.generations) (sym (state_there v b c s other)) (valid.in_range c)
  ];
  ordered = λ c. elim (cases_eq c b) [
    | inl same ↦ ap (λ (d : ℕ). times d next.order) same
        ∙ (times-reordered_same (is_closed (state_at v b)) (is_closed s) b v.order (valid.ordered b) ∙ sym (ap (λ (t : State). if is_closed t then 1 else 0) (at_same c same)))
    | inr other ↦ times-reordered_other (is_closed (state_at v b)) (is_closed s) b c v.order other
        ∙ (valid.ordered c ∙ sym (ap (λ (t : State). if is_closed t then 1 else 0) (state_there v b c s other)))
  ];
  one_active = λ c d c_is d_is. at_most (cases_eq c b) (cases_eq d b) c_is d_is;
}
  where
    next : BookValue
    next = with_state v b s

    at_same : (c : ℕ) → c ≡ b → state_at (with_state v b s) c ≡ s
    at_same c same = ap (state_at (with_state v b s)) same ∙ state_here v b s within

    was_active : (c : ℕ) → c ≢ b → IsActive (with_state v b s) c → IsActive v c
    was_active c other active = subst (λ (t : State). IsTrue (is_active t)) (state_there v b c s other) active

    now_active : (c : ℕ) → c ≡ b → IsActive (with_state v b s) c → IsTrue (is_active s)
    now_active c same active = subst (λ (t : State). IsTrue (is_active t)) (at_same c same) active

    at_most : {c d : ℕ} → (c ≡ b) ⊎ (c ≢ b) → (d ≡ b) ⊎ (d ≢ b) → IsActive (with_state v b s) c → IsActive (with_state v b s) d → c ≡ d
    at_most (inl x) (inl y) c_is d_is = x ∙ sym y
    at_most {c} {d} (inl x) (inr y) c_is d_is = x ∙ sym (one (now_active c x c_is) d (was_active d y d_is))
    at_most {c} {d} (inr x) (inl y) c_is d_is = one (now_active d y d_is) c (was_active c x c_is) ∙ sym y
    at_most {c} {d} (inr x) (inr y) c_is d_is = valid.one_active c d (was_active c x c_is) (was_active d y d_is)

-- where neither the old nor the new state is Spare, the one Spare block stays
pub spare_stays : (v : BookValue) (b : ℕ) (s : State) → b < length v.states → is_spare (state_at v b) ≡ false → is_spare s ≡ false → HasOneSpare v → HasOneSpare (with_state v b s)
spare_stays v b s within was now (spare, is, only) = (spare, now_spare, λ c c_is. only c (was_spare c (cases_eq c b) c_is))
  where
    now_spare : IsSpare (with_state v b s) spare
    now_spare = elim (cases_eq spare b) [
      | inl same ↦ absurd (false≢true (sym was ∙ (ap (λ (c : ℕ). is_spare (state_at v c)) (sym same) ∙ is)))
      | inr other ↦ ap is_spare (state_there v b spare s other) ∙ is
    ]

    was_spare : (c : ℕ) → (c ≡ b) ⊎ (c ≢ b) → IsSpare (with_state v b s) c → IsSpare v c
    was_spare c (inl same) c_is = absurd (false≢true (sym (ap is_spare (ap (state_at (with_state v b s)) same ∙ state_here v b s within) ∙ now) ∙ c_is))
    was_spare c (inr other) c_is = sym (ap is_spare (state_there v b c s other)) ∙ c_is

-- ---- a block gets another live count

pub live_here : (v : BookValue) (b n : ℕ) → b < length v.live → live_at (with_live v b n) b ≡ n
live_here v b n within = get_or-set_same v.live b n 0 within

pub live_there : (v : BookValue) (b c n : ℕ) → c ≢ b → live_at (with_live v b n) c ≡ live_at v c
live_there v b c n other = get_or-set_other v.live b c n 0 other

order_times : (t : Bool) (b c : ℕ) (xs : List ℕ) → times b xs ≡ (if t then 1 else 0) → times c (if t then without b xs ++ b ∷ [] else xs) ≡ times c xs
order_times true b c xs once = times-moved_back b c xs once
order_times false b c xs none = refl

pub valid_live : (v : BookValue) (b n : ℕ) → IsValid v → b < length v.states → n ≤ v.generations * v.pages → IsValid (with_live v b n)
valid_live v b n valid within few = record {
  few_blocks = valid.few_blocks;
  few_pages = valid.few_pages;
  few_units = valid.few_units;
  two_generations = valid.two_generations;
  three_generations = valid.three_generations;
  counts = length-set v.live b n ∙ valid.counts;
  few_live = λ c. elim (cases_eq c b) [
    | inl same ↦ subst (λ (k : ℕ). k ≤ v.generations * v.pages) (sym (ap (live_at (with_live v b n)) same ∙ live_here v b n (omega (arith, valid.counts)))) few
    | inr other ↦ subst (λ (k : ℕ). k ≤ v.generations * v.pages) (sym (live_there v b c n other)) (valid.few_live c)
  ];
  in_range = valid.in_range;
  ordered = λ c. order_times (is_closed (state_at v b)) b c v.order (valid.ordered b) ∙ valid.ordered c;
  one_active = valid.one_active;
}

-- ---- the record effect

-- a book with the same states, of the same sizes
pub record SameStates (v w : BookValue) : Type 0 where
  pub states : w.states ≡ v.states
  pub pages : w.pages ≡ v.pages
  pub units : w.units ≡ v.units
  pub generations : w.generations ≡ v.generations

pub recorded_states : (v : BookValue) (block : ℕ) (former : Option ℕ) → SameStates v (recorded v block former)
recorded_states v block None = record { states = refl; pages = refl; units = refl; generations = refl }
recorded_states v block (Some f) = record { states = refl; pages = refl; units = refl; generations = refl }

pub valid_recorded : (v : BookValue) (block : ℕ) (former : Option ℕ) → IsValid v → block < length v.states → live_at v block < v.generations * v.pages → MayDrop v former
    → IsValid (recorded v block former)
valid_recorded v block None valid within room may = valid_live v block (live_at v block + 1) valid within (omega arith)
valid_recorded v block (Some f) valid within room may =
    let more : IsValid (with_live v block (live_at v block + 1)) = valid_live v block (live_at v block + 1) valid within (omega arith) in
    valid_live (with_live v block (live_at v block + 1)) f (live_at (with_live v block (live_at v block + 1)) f - 1) more may.0 (omega (arith, more.few_live f))

-- one at this block
abbrev pub one_at : ℕ → ℕ → ℕ
one_at at c = cond (at == c) 1 0

-- one at the block of the former record, if there is one
abbrev pub one_in : Option ℕ → ℕ → ℕ
one_in None c = 0
one_in (Some f) c = one_at f c

more_live : (v : BookValue) (block c : ℕ) → block < length v.live → live_at (with_live v block (live_at v block + 1)) c ≡ live_at v c + one_at block c
more_live v block c within = elim (cases_eq c block) [
  | inl same ↦ (
      let now : live_at (with_live v block (live_at v block + 1)) c ≡ live_at v block + 1 =
      ap (live_at (with_live v block (live_at v block + 1))) same ∙ live_here v block (live_at v block + 1) within in
      let one : one_at block c ≡ 1 = ap (λ (t : Bool). if t then 1 else 0) (eq-eqb block c (sym same)) in
      let was : live_at v c ≡ live_at v block = ap (live_at v) same in
      omega (arith, now, one, was))
  | inr other ↦ (
      let now : live_at (with_live v block (live_at v block + 1)) c ≡ live_at v c = live_there v block c (live_at v block + 1) other in
      let none : one_at block c ≡ 0 = ap (λ (t : Bool). if t then 1 else 0) (ne_eqb block c (λ e. other (sym e))) in
      omega (arith, now, none))
]

less_live : (v : BookValue) (f c : ℕ) → f < length v.live → 0 < live_at v f → live_at (with_live v f (live_at v f - 1)) c + one_at f c ≡ live_at v c
less_live v f c within some = elim (cases_eq c f) [
  | inl same ↦ (
      let now : live_at (with_live v f (live_at v f - 1)) c ≡ live_at v f - 1 = ap (live_at (with_live v f (live_at v f - 1))) same ∙ live_here v f (live_at v f - 1) within in
      let one : one_at f c ≡ 1 = ap (λ (t : Bool). if t then 1 else 0) (eq-eqb f c (sym same)) in
      let was : live_at v c ≡ live_at v f = ap (live_at v) same in
      omega (arith, now, one, was))
  | inr other ↦ (
      let now : live_at (with_live v f (live_at v f - 1)) c ≡ live_at v c = live_there v f c (live_at v f - 1) other in
      let none : one_at f c ≡ 0 = ap (λ (t : Bool). if t then 1 else 0) (ne_eqb f c (λ e. other (sym e))) in
      omega (arith, now, none))
]

-- the live counts: one more in the record's block, one less in the former one's
pub recorded_live : (v : BookValue) (block : ℕ) (former : Option ℕ) (c : ℕ) → IsValid v → block < length v.states → MayDrop v former
    → live_at (recorded v block former) c + one_in former c ≡ live_at v c + one_at block c
recorded_live v block None c valid within may = omega (arith, more_live v block c (omega (arith, valid.counts)))
recorded_live v block (Some f) c valid within may =
    let more : BookValue = with_live v block (live_at v block + 1) in
    let there : live_at (with_live v block (live_at v block + 1)) f ≡ live_at v f + one_at block f = more_live v block f (omega (arith, valid.counts)) in
    let here : live_at (with_live v block (live_at v block + 1)) c ≡ live_at v c + one_at block c = more_live v block c (omega (arith, valid.counts)) in
    let long : length (with_live v block (live_at v block + 1)).live ≡ length v.live = length-set v.live block (live_at v block + 1) in
    let less = less_live (with_live v block (live_at v block + 1)) f c (omega (arith, valid.counts, may.0)) (omega (arith, may.1)) in
    omega (arith, less, here)
