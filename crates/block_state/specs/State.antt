-- The states of a block.
use Rattle.std.specs.Prelude.{ℕ, ◌<◌, ◌≤◌, ◌+◌, Bool, true, false}
use Rattle.block_state.specs.declared.state.State.{State}
use Rattle.block_state.specs.declared.state.State.TheVariants.{Clean, Active, Used, Recycled, Reused, Spare}

-- a block is closed where it is Used, Recycled or Reused
abbrev pub is_closed : State → Bool
is_closed Clean = false
is_closed (Active fill) = false
is_closed (Used level) = true
is_closed (Recycled level next) = true
is_closed Reused = true
is_closed (Spare blank) = false

-- nothing is written in a Clean block
abbrev pub is_clean : State → Bool
is_clean Clean = true
is_clean _ = false

-- first writes go to an Active block
abbrev pub is_active : State → Bool
is_active (Active fill) = true
is_active _ = false

-- the pages of a Used block are written, and it takes no write
abbrev pub is_used : State → Bool
is_used (Used level) = true
is_used _ = false

-- later writes go to a Recycled block
abbrev pub is_recycled : State → Bool
is_recycled (Recycled level next) = true
is_recycled _ = false

-- the next collection copies to a Spare block
abbrev pub is_spare : State → Bool
is_spare (Spare blank) = true
is_spare _ = false

-- the numbers of a state: a page to come, a level of at most generations - 2, and a slot from 1 on with a unit to come
abbrev pub InRange : ℕ → ℕ → ℕ → State → Type 0
InRange pages units generations (Active fill) = fill < pages
InRange pages units generations (Used level) = level + 2 ≤ generations
InRange pages units generations (Recycled level next) = (0 < level) × (level < generations) × (next < units)
InRange pages units generations _ = Unit {0}
