-- The recycling rule: while few blocks are Recycled, the lowest Used block without live records becomes Recycled.
use Rattle.std.specs.Prelude.{ℕ, ◌≡◌, ◌+◌, ◌<◌, ◌≤◌, IsTrue}
use Rattle.block_state.specs.declared.state.State.{State}
use Rattle.block_state.specs.declared.state.State.TheVariants.{Clean, Active, Used, Recycled, Reused, Spare}
use Rattle.block_state.specs.Book.{BookValue, state_at, live_at, with_state}
pub use Rattle.block_state.specs.State.{is_used}
pub use Rattle.block_state.specs.Lowest.{recycled_count}

-- the block is Used and has no live record, and blocks have units
abbrev pub IsDue : BookValue → ℕ → Type 0
IsDue v b = IsTrue (is_used (state_at v b)) × (live_at v b ≡ 0) × (0 < v.units)

-- the state of a Used block when it becomes Recycled: one level more, and its first unit next
abbrev pub recycled : State → State
recycled Clean = Clean
recycled (Active fill) = Active fill
recycled (Used level) = Recycled (level + 1) 0
recycled (Recycled level next) = Recycled level next
recycled Reused = Reused
recycled (Spare blank) = Spare blank

-- a run of the rule: it is done where enough blocks are Recycled or none is due, and else the lowest due block becomes Recycled
pub data Recycles (few : ℕ) : BookValue → BookValue → Type 0 where
  done : (v : BookValue) → ((b : ℕ) → IsDue v b → few ≤ recycled_count v) → Recycles few v v
  step : (v w : BookValue) (b : ℕ) → recycled_count v < few → IsDue v b → ((c : ℕ) → c < b → IsDue v c → ⊥) →
      Recycles few (with_state v b (recycled (state_at v b))) w → Recycles few v w
