-- The blocks of the kinds that are looked for, as sets.
use Rattle.std.specs.Prelude.{ℕ, ◌≡◌, ◌+◌, ◌==◌, Bool, false, if◌then◌else◌, List, slice_index, slice_index_or}
use Rattle.std.specs.List.{count_by}
use Rattle.block_state.specs.declared.state.State.{State}
use Rattle.block_state.specs.declared.state.State.TheVariants.{Clean, Reused}
use Rattle.block_state.specs.declared.kinds.Kinds.{Kinds}
use Rattle.block_state.specs.State.{is_clean, is_used, is_recycled}
use Rattle.block_state.specs.BlockSet.{has, IsPut}

-- a block of this state and live count is Used and has no live record
abbrev pub is_empty_used : State → ℕ → Bool
is_empty_used state live = if is_used state then live == 0 else false

-- each set has the blocks of its kind and no number past the last block, and the number is that of the Recycled blocks
pub record AreKinds (states : List State) (live : List ℕ) (kinds : Kinds) : Type 0 where
  pub clean_are : (b : ℕ) → has kinds.clean.words b ≡ is_clean (slice_index_or states b Reused)
  pub recycled_are : (b : ℕ) → has kinds.recycled.words b ≡ is_recycled (slice_index_or states b Clean)
  pub empty_used_are : (b : ℕ) → has kinds.empty_used.words b ≡ is_empty_used (slice_index_or states b Clean) (slice_index live b)
  pub recycled_count_is : kinds.recycled_count ≡ count_by is_recycled states

-- 1 where it holds, and 0 where not
abbrev pub one_if : Bool → ℕ
one_if b = if b then 1 else 0

-- a block of this state and live count was put in the set of its kind and in no other, and counted where it is Recycled
pub record ArePut (old : Kinds) (b : ℕ) (state : State) (live : ℕ) (new : Kinds) : Type 0 where
  pub clean : IsPut old.clean.words b (is_clean state) new.clean.words
  pub recycled : IsPut old.recycled.words b (is_recycled state) new.recycled.words
  pub empty_used : IsPut old.empty_used.words b (is_empty_used state live) new.empty_used.words
  pub recycled_count : new.recycled_count + one_if (has old.recycled.words b) ≡ old.recycled_count + one_if (is_recycled state)
