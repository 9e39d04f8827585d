-- The first list that is not empty has the fewest live records, and its front the least stamp.
use Rattle.std.proofs.Common.{arith}
use Rattle.block_state.proofs.Kept.{least_found, least_none}
use Rattle.block_state.proofs.book.Book.least.Goals as goal

pub returns-in-Some-clause-found : goal.returns-in-Some-clause-found
returns-in-Some-clause-found c = rw (← c.self.view_is)
    (least_found _ _ _ _ c.self.invariant.kept c.args.fewest c.args.most _ _ (omega arith) (omega arith) c.loop-count.invariant c.in-Some.ensures.first)

pub returns-clause-none : goal.returns-clause-none
returns-clause-none c = rw (← c.self.view_is) (least_none _ _ _ _ c.self.invariant.kept c.args.fewest c.args.most c.loop-count.count (omega arith) c.loop-count.invariant)
