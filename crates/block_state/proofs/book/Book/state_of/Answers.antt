-- The state that is read is that of a block, whose numbers are in range.
use Rattle.block_state.proofs.Kept.{state_in_range}
use Rattle.block_state.proofs.book.Book.state_of.Goals as goal

pub returns-clause-in_range : goal.returns-clause-in_range
returns-clause-in_range c =
    let within = rw (← c.self.view_is) at c.requires in
    rw (← c.self.view_is) (state_in_range _ _ _ _ c.self.invariant.kept _ _ within c.index.ensures)
