-- A block that is not closed gets one state after another.
use Rattle.std.proofs.Common.{◌≡◌, ℕ, zero, suc, ◌<◌, Bool, true, false, List, [], ◌∷◌, get_or, slice_set, length, refl, sym, ap, ◌∙◌}
use Rattle.block_state.specs.declared.state.State.{State}
use Rattle.block_state.specs.declared.state.State.TheVariants.{Clean}
use Rattle.block_state.specs.State.{is_closed}
use Rattle.block_state.specs.Book.{BookValue, state_at, with_state, reordered}
use Rattle.collector.proofs.Books.{state_here}

pub set_twice : {X : Type 0} (xs : List X) (i : ℕ) (a b : X) → slice_set (slice_set xs i a) i b ≡ slice_set xs i b
set_twice [] i a b = refl
set_twice (x ∷ xs) zero a b = refl
set_twice (x ∷ xs) (suc i) a b = ap (λ rest. x ∷ rest) (set_twice xs i a b)

pub set_same : {X : Type 0} (xs : List X) (i : ℕ) (d : X) → slice_set xs i (get_or xs i d) ≡ xs
set_same [] i d = refl
set_same (x ∷ xs) zero d = refl
set_same (x ∷ xs) (suc i) d = ap (λ rest. x ∷ rest) (set_same xs i d)

reordered_open : (was now : Bool) (b : ℕ) (xs : List ℕ) → was ≡ false → now ≡ false → reordered was now b xs ≡ xs
reordered_open false false b xs e f = refl
reordered_open false true b xs e f = absurd (cc)
reordered_open true now b xs e f = absurd (cc)

pub state_twice : (v : BookValue) (b : ℕ) (s t : State) → b < length v.states → is_closed (state_at v b) ≡ false → is_closed s ≡ false → is_closed t ≡ false
    → with_state (with_state v b s) b t ≡ with_state v b t
state_twice v b s t within was mid now =
    let here : is_closed (state_at (with_state v b s) b) ≡ false = ap is_closed (state_here v b s within) ∙ mid in
    let states : slice_set (slice_set v.states b s) b t ≡ slice_set v.states b t = set_twice v.states b s t in
    let order : reordered (is_closed (state_at (with_state v b s) b)) (is_closed t) b (reordered (is_closed (state_at v b)) (is_closed s) b v.order)
    ≡ reordered (is_closed (state_at v b)) (is_closed t) b v.order
    = reordered_open _ _ b _ here now ∙ (reordered_open _ _ b v.order was mid ∙ sym (reordered_open _ _ b v.order was now)) in
    λ i. record v { states = states i; order = order i }

pub state_same : (v : BookValue) (b : ℕ) (s : State) → state_at v b ≡ s → is_closed s ≡ false → with_state v b s ≡ v
state_same v b s is open_state =
    let states : slice_set v.states b s ≡ v.states = ap (slice_set v.states b) (sym is) ∙ set_same v.states b Clean in
    let order : reordered (is_closed (state_at v b)) (is_closed s) b v.order ≡ v.order = reordered_open _ _ b v.order (ap is_closed is ∙ open_state) open_state in
    λ i. record v { states = states i; order = order i }
