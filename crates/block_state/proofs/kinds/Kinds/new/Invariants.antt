use Rattle.std.proofs.Common.{◌≡◌, ℕ, nat_lt}
use Rattle.block_state.specs.BlockSet.{has}
use Rattle.block_state.proofs.kinds.Kinds.new.Given as goal

-- the set has the blocks so far
abbrev pub invariant-loop-block : goal.invariant-loop-block
invariant-loop-block l = (c : ℕ) → has l.clean.words c ≡ nat_lt c l.block
