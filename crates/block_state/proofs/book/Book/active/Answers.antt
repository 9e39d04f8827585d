-- The Active block is one of the blocks, since past the last one the state is Clean.
use Rattle.std.proofs.Common.{refl}
use Rattle.block_state.proofs.Kept.{active_within}
use Rattle.block_state.proofs.book.Book.active.Goals as goal

pub returns-clause-within : goal.returns-clause-within
returns-clause-within c = rw (← c.self.view_is) (active_within _ _ _ _ c.self.invariant.kept _ refl)
