-- The three writes lead past the node, so its ring is cut there.
use Rattle.std.proofs.Common.{arith, length-set, None}
use Rattle.block_links.proofs.Fields.{unlink_before, unlink_after, unlink_holds}
use Rattle.block_links.proofs.Ring.{IsFree-removed}
use Rattle.block_links.proofs.links.Links.unlink.Goals as goal

pub index_mut-requires : goal.index_mut-requires
index_mut-requires c =
    let listed = rw (← c.self.view_is) at c.requires in
    omega (arith, unlink_before _ _ _ c.self.invariant _ _ _ listed c.index-before.ensures c.index-after.ensures)

pub index_mut-requires-2 : goal.index_mut-requires-2
index_mut-requires-2 c =
    let listed = rw (← c.self.view_is) at c.requires in
    omega (arith, unlink_after _ _ _ c.self.invariant _ _ _ listed c.index-before.ensures c.index-after.ensures)

pub invariant_of-self : goal.invariant_of-self
invariant_of-self c =
    let listed = rw (← c.self.view_is) at c.requires in
    (unlink_holds _ _ _ c.self.invariant _ _ _ listed c.index-before.ensures c.index-after.ensures).kept

pub returns-clause-lists : goal.returns-clause-lists
returns-clause-lists c =
    let listed = rw (← c.self.view_is) at c.requires in
    rw (← c.self.view_is) (λ i. record {
      nodes = length-set c.self.inside.home.items c.args.node None i;
      lists = (unlink_holds _ _ _ c.self.invariant _ _ _ listed c.index-before.ensures c.index-after.ensures).lists i;
    })

pub returns-clause-free : goal.returns-clause-free
returns-clause-free c =
    let listed = rw (← c.self.view_is) at c.requires in
    rw ((unlink_holds _ _ _ c.self.invariant _ _ _ listed c.index-before.ensures c.index-after.ensures).lists) (IsFree-removed _ c.args.node)
