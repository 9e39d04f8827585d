-- What a contract sees of a `Book`, and how its calls change it.
use Rattle.std.specs.Prelude.{ℕ, ◌≡◌, ◌*◌, ◌≤◌, Bool, true, false, if◌then◌else◌, IsTrue, List, [], ◌∷◌, ◌++◌, length, slice_index, slice_index_or, slice_set}
use Rattle.block_links.specs.Lists.{times, without}
use Rattle.block_state.specs.declared.state.State.{State}
use Rattle.block_state.specs.declared.state.State.TheVariants.{Clean}
use Rattle.block_state.specs.State.{is_closed, is_active, is_spare, InRange}

-- each block's state and live count, and the closed blocks in order
pub record BookValue : Type 0 where
  pub states : List State
  pub live : List ℕ
  pub order : List ℕ
  pub pages : ℕ
  pub units : ℕ
  pub generations : ℕ

-- the state of a block, and Clean past the last block
abbrev pub state_at : BookValue → ℕ → State
state_at v b = slice_index_or v.states b Clean

-- the live count of a block, and 0 past the last block
abbrev pub live_at : BookValue → ℕ → ℕ
live_at v b = slice_index v.live b

-- the block is Used, Recycled or Reused
abbrev pub IsClosed : BookValue → ℕ → Type 0
IsClosed v b = IsTrue (is_closed (state_at v b))

-- the block is Active
abbrev pub IsActive : BookValue → ℕ → Type 0
IsActive v b = IsTrue (is_active (state_at v b))

-- the block is Spare
abbrev pub IsSpare : BookValue → ℕ → Type 0
IsSpare v b = IsTrue (is_spare (state_at v b))

-- no block is closed
abbrev pub NoneClosed : BookValue → Type 0
NoneClosed v = (b : ℕ) → IsClosed v b → ⊥

-- no block is Active
abbrev pub NoneActive : BookValue → Type 0
NoneActive v = (b : ℕ) → IsActive v b → ⊥

-- what every book keeps: its limits, each closed block once in the order and no other, and one Active block at most
pub record IsValid (v : BookValue) : Type 0 where
  pub few_blocks : length v.states ≤ 1024
  pub few_pages : v.pages ≤ 128
  pub few_units : v.units ≤ v.pages
  pub two_generations : 2 ≤ v.generations
  pub three_generations : v.generations ≤ 3
  pub counts : length v.live ≡ length v.states
  pub few_live : (b : ℕ) → live_at v b ≤ v.generations * v.pages
  pub in_range : (b : ℕ) → InRange v.pages v.units v.generations (state_at v b)
  pub ordered : (b : ℕ) → times b v.order ≡ (if is_closed (state_at v b) then 1 else 0)
  pub one_active : (b c : ℕ) → IsActive v b → IsActive v c → b ≡ c

-- the order after a block, closed or not, is closed or not: what is newly closed goes to the back, what no longer is leaves
abbrev pub reordered : Bool → Bool → ℕ → List ℕ → List ℕ
reordered false false b xs = xs
reordered false true b xs = xs ++ b ∷ []
reordered true false b xs = without b xs
reordered true true b xs = xs

-- the book where a block has another state, and all else stays but its place in the order
abbrev pub with_state : BookValue → ℕ → State → BookValue
with_state v b s = record v { states = slice_set v.states b s; order = reordered (is_closed (state_at v b)) (is_closed s) b v.order }

-- the book where a block has another live count, and goes to the back of the order if it is closed
abbrev pub with_live : BookValue → ℕ → ℕ → BookValue
with_live v b n = record v { live = slice_set v.live b n; order = if is_closed (state_at v b) then without b v.order ++ b ∷ [] else v.order }

-- one block is Spare, and no other is
abbrev pub HasOneSpare : BookValue → Type 0
HasOneSpare v = (b : ℕ) × IsSpare v b × ((c : ℕ) → IsSpare v c → c ≡ b)
