-- What one step of recycling changes, and what a whole run keeps.
use Rattle.std.proofs.Common.{◌≡◌, ℕ, ◌+◌, ◌<◌, ◌≤◌, inl, inr, true, false, cond, length, refl, sym, ap, ◌∙◌, arith}
use Rattle.std.proofs.lemmas.Bool.{cases_lt, false≢true}
use Rattle.std.proofs.lemmas.List.{get_or_past}
use Rattle.std.proofs.lemmas.List.Sums.{sum_by-set}
use Rattle.block_state.specs.declared.state.State.{State}
use Rattle.block_state.specs.declared.state.State.TheVariants.{Clean, Active, Used, Recycled, Reused, Spare}
use Rattle.block_state.specs.State.{is_closed}
use Rattle.block_state.specs.Book.{BookValue, state_at, with_state}
use Rattle.reuse_pool.specs.Offer.{is_recycled}
use Rattle.reuse_pool.specs.Recycling.{is_used, IsDue, recycled, recycled_count, Recycles, done, step}

not_recycled : (s : State) → is_used s ≡ true → is_recycled s ≡ false
not_recycled Clean used = refl
not_recycled (Active fill) used = refl
not_recycled (Used level) used = refl
not_recycled (Recycled level next) used = absurd (false≢true used)
not_recycled Reused used = refl
not_recycled (Spare blank) used = refl

now_recycled : (s : State) → is_used s ≡ true → (is_recycled (recycled s) ≡ true) × (is_used (recycled s) ≡ false)
now_recycled Clean used = absurd (false≢true used)
now_recycled (Active fill) used = absurd (false≢true used)
now_recycled (Used level) used = (refl, refl)
now_recycled (Recycled level next) used = absurd (false≢true used)
now_recycled Reused used = absurd (false≢true used)
now_recycled (Spare blank) used = absurd (false≢true used)

module _ (v : BookValue) (b : ℕ) (within : b < length v.states) (due : IsDue v b) where
  abbrev after : BookValue
  after = with_state v b (recycled (state_at v b))

  pub recycled_count-after : recycled_count after ≡ recycled_count v + 1
  recycled_count-after =
      let ones : State → ℕ = λ s. cond (is_recycled s) 1 0 in
      let before : ones (state_at v b) ≡ 0 = ap (λ t. cond t 1 0) (not_recycled (state_at v b) due.0) in
      let now : ones (recycled (state_at v b)) ≡ 1 = ap (λ t. cond t 1 0) (now_recycled (state_at v b) due.0).0 in
      omega (arith, sum_by-set ones v.states b (recycled (state_at v b)) Clean within, before, now)

-- a due block is one of the blocks
pub due_within : (v : BookValue) (b : ℕ) → IsDue v b → b < length v.states
due_within v b due = elim (cases_lt b (length v.states)) [
  | inl within ↦ within
  | inr past ↦ absurd (false≢true (sym (ap is_used (get_or_past v.states b Clean past)) ∙ due.0))
]

-- what one step keeps, a whole run keeps
pub kept_by_run : (few : ℕ) (P : BookValue → Type 0) → ((v : BookValue) (b : ℕ) → recycled_count v < few → IsDue v b → P v → P (with_state v b (recycled (state_at v b)))) →
    (v w : BookValue) → Recycles few v w → P v → P w
kept_by_run few P keeps _ _ (done v none) held = held
kept_by_run few P keeps _ _ (step v w b fewer due first rest) held = kept_by_run few P keeps (with_state v b (recycled (state_at v b))) w rest (keeps v b fewer due held)

-- after a run few blocks are Recycled, or none is due
pub settled_by_run : (few : ℕ) (v w : BookValue) → Recycles few v w → (b : ℕ) → IsDue w b → few ≤ recycled_count w
settled_by_run few _ _ (done v none) = none
settled_by_run few _ _ (step v w b fewer due first rest) = settled_by_run few (with_state v b (recycled (state_at v b))) w rest

-- a due block is closed
pub closed_due : (s : State) → is_used s ≡ true → is_closed s ≡ true
closed_due Clean used = absurd (false≢true used)
closed_due (Active fill) used = absurd (false≢true used)
closed_due (Used level) used = refl
closed_due (Recycled level next) used = refl
closed_due Reused used = refl
closed_due (Spare blank) used = absurd (false≢true used)
