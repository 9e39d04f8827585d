-- The set has the empty Used blocks and no other.
use Rattle.block_state.proofs.KindsKept.{empty_used_lowest}
use Rattle.block_state.proofs.book.Book.lowest_empty_used.Goals as goal

pub returns-clause-found : goal.returns-clause-found
returns-clause-found c = rw (← c.self.view_is) (empty_used_lowest _ _ _ _ _ c.self.invariant _ c.lowest.ensures.found)
