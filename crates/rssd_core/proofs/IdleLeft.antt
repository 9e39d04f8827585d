-- The room for idle moves. Where no idle victim fits it, none does after the recycling rule: it moves no live record, and no block opens or closes.
use Rattle.std.proofs.Common.{◌≡◌, ◌≢◌, inl, inr, ℕ, ◌-◌, ◌<◌, ◌≤◌, Bool, true, false, List, length, get_or, Option, Some, None, refl, sym, ap, ◌∙◌, arith, subst, get_or-set_same, get_or-set_other}
use Rattle.std.proofs.lemmas.Bool.{cases_eq, cases_lt, false≢true}
use Rattle.std.proofs.lemmas.List.{get_or_past}
use Rattle.std.specs.List.{position, position_or_len}
use Rattle.std.proofs.lemmas.Grind.{common_steps}
use Rattle.std.proofs.lemmas.List.Quantifiers.{position-Some}
use Rattle.std.proofs.lemmas.List.Sums.{fails_before_first}
use Rattle.block_state.specs.declared.state.State.{State}
use Rattle.block_state.specs.declared.state.State.TheVariants.{Clean, Active, Used, Recycled, Reused, Spare}
use Rattle.block_state.specs.State.{is_active, is_closed}
use Rattle.block_state.specs.Book.{BookValue, NoneActive, IsClosed, IsValid, state_at, with_state}
use Rattle.block_state.specs.Victim.{NoneFits}
use Rattle.reuse_pool.specs.Recycling.{IsDue, Recycles, is_used, recycled}
use Rattle.reuse_pool.proofs.Steps.{due_within, kept_by_run}
use Rattle.collector.specs.Moves.{IsRoom, NoMoveLeft}
use Rattle.collector.specs.Effects.{fill_of}
use Rattle.rssd_core.specs.Rules.{first_block, room_in, room_left}
use Rattle.rssd_core.proofs.Rules as rules

-- ---- one use of the recycling rule

-- a Used state and the one that it becomes are closed, and neither is Active
used_closed : (s : State) → is_used s ≡ true → (is_closed s ≡ true) × (is_closed (recycled s) ≡ true) × (is_active s ≡ false) × (is_active (recycled s) ≡ false)
used_closed Clean used = absurd (false≢true used)
used_closed (Active fill) used = absurd (false≢true used)
used_closed (Used level) used = (refl, refl, refl, refl)
used_closed (Recycled level next) used = absurd (false≢true used)
used_closed Reused used = absurd (false≢true used)
used_closed (Spare blank) used = absurd (false≢true used)

module _ (v : BookValue) (b : ℕ) (due : IsDue v b) where
  abbrev after : BookValue
  after = with_state v b (recycled (state_at v b))

  here : state_at after b ≡ recycled (state_at v b)
  here = get_or-set_same v.states b (recycled (state_at v b)) Clean (due_within v b due)

  there : (c : ℕ) → c ≢ b → state_at after c ≡ state_at v c
  there c apart = get_or-set_other v.states b c (recycled (state_at v b)) Clean apart

  facts : (is_closed (state_at v b) ≡ true) × (is_closed (recycled (state_at v b)) ≡ true) × (is_active (state_at v b) ≡ false) × (is_active (recycled (state_at v b)) ≡ false)
  facts = used_closed (state_at v b) due.0

  -- an Active block was Active before
  active_before : (c fill : ℕ) → state_at after c ≡ Active fill → state_at v c ≡ Active fill
  active_before c fill is = elim (cases_eq c b) [
    | inl same ↦ absurd (false≢true (sym facts.3 ∙ (ap is_active (sym here) ∙ (ap (λ (d : ℕ). is_active (state_at after d)) (sym same) ∙ ap is_active is))))
    | inr apart ↦ sym (there c apart) ∙ is
  ]

  none_before : NoneActive after → NoneActive v
  none_before none c is = elim (cases_eq c b) [
    | inl same ↦ false≢true (sym facts.2 ∙ (ap (λ (d : ℕ). is_active (state_at v d)) (sym same) ∙ is))
    | inr apart ↦ none c (ap is_active (there c apart) ∙ is)
  ]

  closed_before : (c : ℕ) → IsClosed after c → IsClosed v c
  closed_before c is = elim (cases_eq c b) [
    | inl same ↦ ap (λ (d : ℕ). is_closed (state_at v d)) same ∙ facts.0
    | inr apart ↦ ap is_closed (sym (there c apart)) ∙ is
  ]

  room_before : (room : ℕ) → IsRoom after room → IsRoom v room
  room_before room (inl (block, fill, active, is)) = inl (block, fill, active_before block fill active, is)
  room_before room (inr (none, is)) = inr (none_before none, is)

  left_after : NoMoveLeft v → NoMoveLeft after
  left_after left room is c closed some = left room (room_before room is) c (closed_before c closed) some

left_by_run : (few : ℕ) (v w : BookValue) → Recycles few v w → NoMoveLeft v → NoMoveLeft w
left_by_run few v w run left = kept_by_run few NoMoveLeft (λ u b fewer due held. left_after u b due held) v w run left

-- ---- the room by the first Active block

active_is : (s : State) → is_active s ≡ true → s ≡ Active (fill_of s)
active_is Clean is = absurd (false≢true is)
active_is (Active fill) is = refl
active_is (Used level) is = absurd (false≢true is)
active_is (Recycled level next) is = absurd (false≢true is)
active_is Reused is = absurd (false≢true is)
active_is (Spare blank) is = absurd (false≢true is)

none_passes : (p : State → Bool) (xs : List State) (i : ℕ) (d : State) → position p xs ≡ None → i < length xs → p (get_or xs i d) ≡ false
none_passes p xs i d e within =
    let past : length xs ≤ position_or_len p xs = grind (arith, common_steps) in
    fails_before_first p xs i d (omega arith)

is_room : (v : BookValue) → IsRoom v (room_left v)
is_room v = at (first_block is_active v) refl
  where
    at : (o : Option ℕ) → first_block is_active v ≡ o → IsRoom v (room_in v o)
    at None e = inr (none, refl)
      where
        none : NoneActive v
        none c is = elim (cases_lt c (length v.states)) [
          | inl within ↦ false≢true (sym (none_passes is_active v.states c Clean e within) ∙ is)
          | inr past ↦ false≢true (ap is_active (sym (get_or_past v.states c Clean past)) ∙ is)
        ]
    at (Some b) e = inl (b, fill_of (state_at v b), active_is (state_at v b) (position-Some is_active v.states b Clean e).1, refl)

pub none_left_after : (few : ℕ) (v w : BookValue) → Recycles few v w → NoMoveLeft v → NoneFits w 1 (room_left w)
none_left_after few v w run left = left_by_run few v w run left (room_left w) (is_room w)

-- ---- the room is one

pub room_active : (v : BookValue) → IsValid v → (block fill : ℕ) → state_at v block ≡ Active fill → room_left v ≡ v.pages - fill
room_active v valid block fill active = ap (room_in v) (rules.active_is v valid block (ap is_active active)) ∙ ap (λ (s : State). v.pages - fill_of s) active

pub room_is : (v : BookValue) → IsValid v → (room : ℕ) → IsRoom v room → room_left v ≡ room
room_is v valid room (inl (block, fill, active, is)) = room_active v valid block fill active ∙ sym is
room_is v valid room (inr (none, is)) = ap (room_in v) (rules.first_none v is_active (λ b within hit. none b hit)) ∙ sym is

pub none_left_by : (v : BookValue) → IsValid v → NoneFits v 1 (room_left v) → NoMoveLeft v
none_left_by v valid none room is = subst (NoneFits v 1) (room_is v valid room is) none
