-- How far seven cells are charged.
use Rattle.std.specs.Prelude.{◌≡◌, ◌≤◌, ◌⊎◌, Bool, false, List, replicate}
use Rattle.wom_code.specs.Cells.{charge_of}
use Rattle.hamming_seven.specs.Words.{sum_from}

-- no cell is charged
abbrev pub blank : List Bool
blank = replicate 7 false

-- at most one cell is charged
abbrev pub IsStageOne : List Bool → Type 0
IsStageOne cells = charge_of cells ≤ 1

-- at most two cells are charged, or three whose columns sum to zero
abbrev pub IsStageTwo : List Bool → Type 0
IsStageTwo cells = (charge_of cells ≤ 2) ⊎ ((charge_of cells ≡ 3) × (sum_from 1 cells ≡ 0))
