-- The code on the three cells of a word, by operations that go on many words at once.
use Rattle.std.specs.Prelude.{Bool, not, ◌&&◌, ◌||◌, List, [], ◌∷◌}
use Rattle.wom_code.specs.Cells.{cell_at}
use Rattle.rivest_shamir.specs.Words.{differ}

abbrev pub all_three : Bool → List Bool
all_three each = each ∷ each ∷ each ∷ []

-- all three cells where an odd number of them is charged
abbrev pub odd_of : List Bool → List Bool
odd_of cells = all_three (differ (differ (cell_at cells 0) (cell_at cells 1)) (cell_at cells 2))

abbrev pub differ_of : List Bool → List Bool → List Bool
differ_of p q = differ (cell_at p 0) (cell_at q 0) ∷ differ (cell_at p 1) (cell_at q 1) ∷ differ (cell_at p 2) (cell_at q 2) ∷ []

abbrev pub either_of : List Bool → List Bool → List Bool
either_of p q = (cell_at p 0 || cell_at q 0) ∷ (cell_at p 1 || cell_at q 1) ∷ (cell_at p 2 || cell_at q 2) ∷ []

abbrev pub both_of : List Bool → List Bool → List Bool
both_of p q = (cell_at p 0 && cell_at q 0) ∷ (cell_at p 1 && cell_at q 1) ∷ (cell_at p 2 && cell_at q 2) ∷ []

-- where some cell is charged, the cells that are not
abbrev pub others_of : List Bool → List Bool
others_of cells = differ_of (all_three ((cell_at cells 0 || cell_at cells 1) || cell_at cells 2)) cells

-- a message and the sum of its two bits
abbrev pub with_sum : List Bool → List Bool
with_sum message = cell_at message 0 ∷ cell_at message 1 ∷ differ (cell_at message 0) (cell_at message 1) ∷ []

-- the word of least charge of a message: the one cell that it takes, where it takes one
abbrev pub least_of : List Bool → List Bool
least_of message =
    (cell_at message 1 && not (cell_at message 0)) ∷ (cell_at message 0 && not (cell_at message 1)) ∷ (cell_at message 0 && cell_at message 1) ∷ []
