-- The end of a ring leads to itself where the list is empty, and else to the first node.
use Rattle.std.proofs.Common.{arith}
use Rattle.block_links.proofs.Fields.{front_none, front_some}
use Rattle.block_links.proofs.Ring.{is_valid}
use Rattle.block_links.proofs.links.Links.front.Goals as goal

pub overflow_cast-result : goal.overflow_cast-result
overflow_cast-result c =
    let bucket = rw (← c.self.view_is) at c.requires in
    let some = front_some _ _ _ c.self.invariant _ _ _ bucket (omega arith) c.index-first.ensures c.if-first-end.false in
    omega (arith, some.2, c.self.invariant.few_nodes)

pub returns-then-first-end-clause-first : goal.returns-then-first-end-clause-first
returns-then-first-end-clause-first c =
    let bucket = rw (← c.self.view_is) at c.requires in
    rw (← c.self.view_is) (front_none _ _ _ c.self.invariant _ _ _ bucket (omega arith) c.index-first.ensures c.if-first-end.true)

pub returns-else-first-end-clause-first : goal.returns-else-first-end-clause-first
returns-else-first-end-clause-first c =
    let bucket = rw (← c.self.view_is) at c.requires in
    let some = front_some _ _ _ c.self.invariant _ _ _ bucket (omega arith) c.index-first.ensures c.if-first-end.false in
    rw (← c.self.view_is) (some.0, some.1)

pub returns-then-first-end-clause-valid : goal.returns-then-first-end-clause-valid
returns-then-first-end-clause-valid c = rw (← c.self.view_is) (is_valid _ _ _ _ c.self.invariant)

pub returns-else-first-end-clause-valid : goal.returns-else-first-end-clause-valid
returns-else-first-end-clause-valid c = rw (← c.self.view_is) (is_valid _ _ _ _ c.self.invariant)
