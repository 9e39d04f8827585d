use Rattle.std.proofs.Common.{◌≡◌, ℕ, ◌<◌, slice_index}
use Rattle.block_state.proofs.block_set.BlockSet.lowest.Given as goal

-- the words so far are 0
abbrev pub invariant-loop-word : goal.invariant-loop-word
invariant-loop-word l = (k : ℕ) → k < l.word → slice_index l.self.words k ≡ 0
