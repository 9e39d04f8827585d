-- The set has the Clean blocks and no other.
use Rattle.block_state.proofs.KindsKept.{clean_lowest}
use Rattle.block_state.proofs.book.Book.lowest_clean.Goals as goal

pub returns-clause-found : goal.returns-clause-found
returns-clause-found c = rw (← c.self.view_is) (clean_lowest _ _ _ _ _ c.self.invariant _ c.lowest.ensures.found)
