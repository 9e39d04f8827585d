-- What each block becomes when all pages are read.
use Rattle.std.specs.Prelude.{◌≡◌, ℕ, ◌+◌, ◌<◌, ◌≤◌, Bool, true, false, List, length, slice_index_or, not, ◌==◌, if◌then◌else◌, Option, Some, None}
use Rattle.std.specs.List.{filter, range_with_len}
use Rattle.block_state.specs.declared.state.State.{State}
use Rattle.block_state.specs.declared.state.State.TheVariants.{Clean, Used, Reused, Spare}
use Rattle.block_state.specs.State.{is_closed}
use Rattle.block_state.specs.Book.{BookValue, state_at, live_at}
use Rattle.page_codec.specs.declared.seen.Seen.{Seen}
use Rattle.mount_scan.specs.declared.tables.Tables.{Tables}

-- of the blocks below n this is the highest-numbered without a live record; where it is none, each has one
abbrev pub IsLastFree : BookValue → ℕ → Option ℕ → Type 0
IsLastFree book n None = (block : ℕ) → block < n → 0 < live_at book block
IsLastFree book n (Some free) = (free < n) × (live_at book free ≡ 0) × ((block : ℕ) → free < block → block < n → 0 < live_at book block)

-- the highest slot from 1 on that is not blank on a page
abbrev pub page_level : Seen → ℕ
page_level seen = if not seen.third.blank then 2 else (if not seen.second.blank then 1 else 0)

-- the state is Clean
abbrev pub is_clean : State → Bool
is_clean Clean = true
is_clean _ = false

-- the state of a block that its cells make this, if it is the Spare or not
abbrev pub settled : State → Bool → State
settled found is_spare = if is_spare then Spare (is_clean found) else found

-- the state that a block's cells make it is Clean, Used below the last slot or Reused
abbrev pub MayBeFound : ℕ → State → Type 0
MayBeFound generations Clean = Unit {0}
MayBeFound generations (Used level) = level + 2 ≤ generations
MayBeFound generations Reused = Unit {0}
MayBeFound generations _ = ⊥

abbrev pub AllFound : ℕ → List State → Type 0
AllFound generations found = (block : ℕ) → MayBeFound generations (slice_index_or found block Clean)

-- the state of a block among those that the cells make all blocks
abbrev pub settled_at : List State → ℕ → ℕ → State
settled_at found spare block = settled (slice_index_or found block Clean) (block == spare)

-- each block has its state, the order has the closed ones in ascending number, and all else stays
pub record Settles (spare : ℕ) (old new : Tables) : Type 0 where
  pub states : (block : ℕ) → block < length old.book.states → state_at new.book block ≡ settled_at old.found.items spare block
  pub order : new.book.order ≡ filter (λ block. is_closed (settled_at old.found.items spare block)) (range_with_len 0 (length old.book.states))
  pub blocks : length new.book.states ≡ length old.book.states
  pub live : new.book.live ≡ old.book.live
  pub pages : new.book.pages ≡ old.book.pages
  pub units : new.book.units ≡ old.book.units
  pub generations : new.book.generations ≡ old.book.generations
  pub map : new.map ≡ old.map
  pub seq : new.seq ≡ old.seq
