-- The lowest block of a kind, by the states and live counts alone.
use Rattle.std.specs.Prelude.{ℕ, ◌≡◌, ◌<◌, IsTrue, length}
use Rattle.std.specs.List.{count_by}
use Rattle.block_state.specs.declared.state.State.TheVariants.{Clean}
use Rattle.block_state.specs.State.{is_used, is_recycled}
use Rattle.block_state.specs.Book.{BookValue, state_at, live_at}

-- the block is one of the book's, and Clean
abbrev pub IsClean : BookValue → ℕ → Type 0
IsClean v b = (b < length v.states) × (state_at v b ≡ Clean)

-- the block is Recycled
abbrev pub IsRecycled : BookValue → ℕ → Type 0
IsRecycled v b = IsTrue (is_recycled (state_at v b))

-- the block is Used and has no live record
abbrev pub IsEmptyUsed : BookValue → ℕ → Type 0
IsEmptyUsed v b = IsTrue (is_used (state_at v b)) × (live_at v b ≡ 0)

-- no block below n is Clean
abbrev pub NoneCleanBelow : BookValue → ℕ → Type 0
NoneCleanBelow v n = (b : ℕ) → b < n → IsClean v b → ⊥

-- no block below n is Recycled
abbrev pub NoneRecycledBelow : BookValue → ℕ → Type 0
NoneRecycledBelow v n = (b : ℕ) → b < n → IsRecycled v b → ⊥

-- no block below n is Used with no live record
abbrev pub NoneEmptyUsedBelow : BookValue → ℕ → Type 0
NoneEmptyUsedBelow v n = (b : ℕ) → b < n → IsEmptyUsed v b → ⊥

-- how many blocks are Recycled
abbrev pub recycled_count : BookValue → ℕ
recycled_count v = count_by is_recycled v.states
