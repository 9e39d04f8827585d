-- The five writes put the node between the last place of the ring and its end.
use Rattle.std.proofs.Common.{arith, length-set, Some}
use Rattle.block_links.proofs.Fields.{push_last, push_holds}
use Rattle.block_links.proofs.links.Links.push_back.Goals as goal

pub index_mut-requires : goal.index_mut-requires
index_mut-requires c =
    let bucket = rw (← c.self.view_is) at c.requires.bucket in
    let node = rw (← c.self.view_is) at c.requires.node in
    let free = rw (← c.self.view_is) at c.requires.free in
    omega (arith, push_last _ _ _ c.self.invariant _ _ _ _ bucket node free (omega arith) c.index-last.ensures)

pub invariant_of-self : goal.invariant_of-self
invariant_of-self c =
    let bucket = rw (← c.self.view_is) at c.requires.bucket in
    let node = rw (← c.self.view_is) at c.requires.node in
    let free = rw (← c.self.view_is) at c.requires.free in
    (push_holds _ _ _ c.self.invariant _ _ _ _ bucket node free (omega arith) c.index-last.ensures).kept

pub returns : goal.returns
returns c =
    let bucket = rw (← c.self.view_is) at c.requires.bucket in
    let node = rw (← c.self.view_is) at c.requires.node in
    let free = rw (← c.self.view_is) at c.requires.free in
    rw (← c.self.view_is) (λ i. record {
      nodes = length-set c.self.inside.home.items c.args.node (Some c.args.bucket) i;
      lists = (push_holds _ _ _ c.self.invariant _ _ _ _ bucket node free (omega arith) c.index-last.ensures).lists i;
    })
