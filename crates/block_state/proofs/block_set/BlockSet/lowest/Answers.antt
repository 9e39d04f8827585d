-- The lowest 1 of the first word that is not 0 is the lowest block.
use Rattle.std.proofs.Common.{arith}
use Rattle.block_state.proofs.Bits.{lowest_in, none_in}
use Rattle.block_state.proofs.block_set.BlockSet.lowest.Goals as goal

pub returns-then-bits-ne0-clause-found : goal.returns-then-bits-ne0-clause-found
returns-then-bits-ne0-clause-found c = lowest_in c.args.self.now.words c.loop-word.word (omega arith) (omega arith) c.loop-word.invariant

pub returns-clause-none : goal.returns-clause-none
returns-clause-none c = none_in c.args.self.now.words c.loop-word.word (omega arith) c.loop-word.invariant
