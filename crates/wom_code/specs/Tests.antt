-- Tests of rows of cells: whether two are one, whether one is above another, whether one carries a message.
use Rattle.std.specs.Prelude.{ℕ, zero, suc, Bool, true, false, not, ◌&&◌, ◌||◌, List, [], ◌∷◌, ◌++◌, map}
use Rattle.std.specs.Cmp.Lexicographic.{pointwise}
use mathlib.Core.Bool.{beq}

-- whether the two rows are one
abbrev pub is_same : List Bool → List Bool → Bool
is_same xs ys = pointwise beq xs ys

-- whether every charged cell of the old row is charged in the new one
abbrev pub is_above : List Bool → List Bool → Bool
is_above new [] = true
is_above [] (o ∷ old) = not o && is_above [] old
is_above (c ∷ new) (o ∷ old) = (not o || c) && is_above new old

-- whether the new cells are above the old ones and decode to the message
abbrev pub is_carrying : (List Bool → List Bool) → List Bool → List Bool → List Bool → Bool
is_carrying decode old message new = is_above new old && is_same (decode new) message

-- every row of n cells
abbrev pub all_rows : ℕ → List (List Bool)
all_rows zero = [] ∷ []
all_rows (suc n) = map (λ row. true ∷ row) (all_rows n) ++ map (λ row. false ∷ row) (all_rows n)
