-- The offer: the next unit of the lowest Recycled block.
use Rattle.std.specs.Prelude.{◌≡◌, ◌+◌, ◌<◌, ◌==◌, if◌then◌else◌, length}
use Rattle.block_state.specs.declared.state.State.{State}
use Rattle.block_state.specs.declared.state.State.TheVariants.{Used, Recycled, Reused}
use Rattle.block_state.specs.Book.{BookValue, state_at}
pub use Rattle.block_state.specs.State.{is_recycled}
pub use Rattle.block_state.specs.Lowest.{IsRecycled, NoneRecycledBelow}
use Rattle.reuse_pool.specs.declared.unit.ReuseUnit.{ReuseUnit}

-- the unit `next`, with the slot `level`, of the lowest Recycled block
abbrev pub IsOffer : BookValue → ReuseUnit → Type 0
IsOffer v unit = (unit.block < length v.states) × (state_at v unit.block ≡ Recycled unit.slot unit.number) × NoneRecycledBelow v unit.block

-- the state of the offer's block after it is passed: at its next unit, or after the last one Reused in the last slot and else Used
abbrev pub passed : BookValue → ReuseUnit → State
passed v unit = if unit.number + 1 == v.units then (if unit.slot + 1 == v.generations then Reused else Used unit.slot) else Recycled unit.slot (unit.number + 1)
