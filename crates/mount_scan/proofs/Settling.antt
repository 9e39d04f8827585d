-- One block more gets its state: it goes to the back of the order if it is closed, and no earlier one moves.
use Rattle.std.proofs.Common.{◌≡◌, inl, inr, ℕ, zero, suc, ◌+◌, ◌<◌, ◌≤◌, Bool, true, false, cond, List, [], ◌∷◌, ◌++◌, length, refl, sym, ap, ◌∙◌, subst, arith, get_or-set_same, get_or-set_other}
use Rattle.std.specs.List.{filter, range_with_len}
use Rattle.std.proofs.lemmas.Bool.{cases_eq}
use Rattle.std.proofs.lemmas.List.{append-nil}
use Rattle.std.proofs.lemmas.List.Elements.{filter-append}
use Rattle.block_state.specs.declared.state.State.{State}
use Rattle.block_state.specs.declared.state.State.TheVariants.{Clean, Active, Used, Recycled, Reused, Spare}
use Rattle.block_state.specs.State.{is_closed, is_active, InRange}
use Rattle.block_state.specs.Book.{BookValue, state_at, with_state, reordered}
use Rattle.mount_scan.specs.Settled.{settled, settled_at, MayBeFound}

-- a settled state is in range, and none is Active
pub settled_in_range : (pages units generations : ℕ) (found : State) (is_spare : Bool) → MayBeFound generations found → InRange pages units generations (settled found is_spare)
settled_in_range pages units generations found true may = tt
settled_in_range pages units generations Clean false may = tt
settled_in_range pages units generations (Active fill) false may = absurd may
settled_in_range pages units generations (Used level) false may = may
settled_in_range pages units generations (Recycled level next) false may = absurd may
settled_in_range pages units generations Reused false may = tt
settled_in_range pages units generations (Spare blank) false may = absurd may

pub settled_not_active : (generations : ℕ) (found : State) (is_spare : Bool) → MayBeFound generations found → is_active (settled found is_spare) ≡ false
settled_not_active generations found true may = refl
settled_not_active generations Clean false may = refl
settled_not_active generations (Active fill) false may = absurd may
settled_not_active generations (Used level) false may = refl
settled_not_active generations (Recycled level next) false may = refl
settled_not_active generations Reused false may = refl
settled_not_active generations (Spare blank) false may = absurd may

pub range_last : (a n j : ℕ) → a + n ≡ j → range_with_len a (suc n) ≡ range_with_len a n ++ j ∷ []
range_last a zero j e = let same : a ≡ j = omega arith in ap (λ k. k ∷ []) same
range_last a (suc n) j e = ap (λ l. a ∷ l) (range_last (a + 1) n j (omega arith))

filter_last : (p : ℕ → Bool) (n : ℕ) → filter p (range_with_len 0 (n + 1)) ≡ filter p (range_with_len 0 n) ++ cond (p n) (n ∷ []) []
filter_last p n =
    let on : n + 1 ≡ suc n = omega arith in
    ap (λ k. filter p (range_with_len 0 k)) on ∙ (ap (filter p) (range_last 0 n n (omega arith)) ∙ filter-append p (range_with_len 0 n) (n ∷ []))

reordered_open : (t : Bool) (b : ℕ) (xs : List ℕ) → reordered false t b xs ≡ xs ++ cond t (b ∷ []) []
reordered_open true b xs = refl
reordered_open false b xs = sym (append-nil xs)

-- what is settled of the blocks below n, where the others are Clean
pub record IsSettledBelow (found : List State) (spare n : ℕ) (v : BookValue) : Type 0 where
  pub states : (b : ℕ) → b < n → state_at v b ≡ settled_at found spare b
  pub rest : (b : ℕ) → n ≤ b → state_at v b ≡ Clean
  pub order : v.order ≡ filter (λ b. is_closed (settled_at found spare b)) (range_with_len 0 n)

pub settled_more : (found : List State) (spare n : ℕ) (v : BookValue) (s : State) → n < length v.states → s ≡ settled_at found spare n → IsSettledBelow found spare n v
    → IsSettledBelow found spare (n + 1) (with_state v n s)
settled_more found spare n v s within is below = record {
  states = λ b less. elim (cases_eq b n) [
    | inl same ↦ subst (λ k. state_at (with_state v n s) k ≡ settled_at found spare k) (sym same) (get_or-set_same v.states n s Clean within ∙ is)
    | inr other ↦ get_or-set_other v.states n b s Clean other ∙ below.states b (omega arith)
  ];
  rest = λ b more. get_or-set_other v.states n b s Clean (λ e. omega arith) ∙ below.rest b (omega arith);
  order =
      ap (λ t. reordered t (is_closed s) n v.order) (ap is_closed (below.rest n (omega arith)))
      ∙ (reordered_open (is_closed s) n v.order
      ∙ (ap (λ o. o ++ cond (is_closed s) (n ∷ []) []) below.order
      ∙ (ap (λ t. filter (λ b. is_closed (settled_at found spare b)) (range_with_len 0 n) ++ cond (is_closed t) (n ∷ []) []) is
      ∙ sym (filter_last (λ b. is_closed (settled_at found spare b)) n))));
}
