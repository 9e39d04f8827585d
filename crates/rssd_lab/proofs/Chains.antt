-- Steps one after another, and one more.
use Rattle.std.proofs.Common.{List, [], ◌∷◌, ◌++◌, refl, subst}
use Rattle.rssd_lab.specs.Chain.{Chain}

pub chain_none : {S E : Type 0} (step : S → E → S → Type 0) (now : S) → Chain step now [] now
unfolding Chain
chain_none step now = refl

pub chain_more : {S E : Type 0} (step : S → E → S → Type 0) (old between new : S) (events : List E) (event : E) → Chain step old events between → step between event new
    → Chain step old (events ++ event ∷ []) new
unfolding Chain
chain_more {S} step old between new [] event chain one = (new, subst (λ (s : S). step s event new) chain one, refl)
chain_more step old between new (first ∷ events) event chain one = (chain.0, chain.1, chain_more step chain.0 between new events event chain.2 one)
