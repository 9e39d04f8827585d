-- Steps that follow one another.
use Rattle.std.specs.Prelude.{◌≡◌, List, [], ◌∷◌}

-- from the one state to the other, by these steps in order
unfoldable pub Chain : {S E : Type 0} → (S → E → S → Type 0) → S → List E → S → Type 0
Chain step old [] new = new ≡ old
Chain {S} step old (event ∷ events) new = (between : S) × step old event between × Chain step between events new
