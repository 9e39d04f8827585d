-- Fewer than 32 nodes are in the order, so one is unused.
use Rattle.std.proofs.Common.{sym, subst, arith}
use Rattle.rssd_queue.specs.Kept.{HasNodes}
use Rattle.rssd_queue.proofs.Nodes.{to_order, has_used, unused_listed, unused_within, unused_removed, front_stands}
use Rattle.rssd_queue.proofs.order.take_unused.Goals as goal

pub unlink-requires : goal.unlink-requires
unlink-requires c = unused_listed c.args.order.now c.requires.nodes c.in-Some.node (front_stands _ _ c.in-Some.ensures.first)

pub push_back-requires-clause-bucket : goal.push_back-requires-clause-bucket
push_back-requires-clause-bucket c =
    rw (c.unlink.ensures.lists, unused_removed c.args.order.now c.requires.nodes c.in-Some.node (front_stands _ _ c.in-Some.ensures.first)) (omega arith)

pub push_back-requires-clause-node : goal.push_back-requires-clause-node
push_back-requires-clause-node c =
    rw (c.unlink.ensures.lists, c.requires.nodes.nodes) (unused_within c.args.order.now c.requires.nodes c.in-Some.node (front_stands _ _ c.in-Some.ensures.first))

pub returns-clause-unused : goal.returns-clause-unused
returns-clause-unused c = front_stands _ _ c.in-Some.ensures.first

pub returns-clause-taken : goal.returns-clause-taken
returns-clause-taken c =
    to_order c.args.order.now c.requires.nodes c.in-Some.node (front_stands _ _ c.in-Some.ensures.first) c.unlink.new.self c.push_back.new.self c.unlink.ensures.lists c.push_back.ensures

pub returns-clause-nodes : goal.returns-clause-nodes
returns-clause-nodes c =
    let free = front_stands _ _ c.in-Some.ensures.first in
    subst HasNodes (sym (to_order c.args.order.now c.requires.nodes c.in-Some.node free c.unlink.new.self c.push_back.new.self c.unlink.ensures.lists c.push_back.ensures))
    (has_used c.args.order.now c.requires.nodes c.in-Some.node free)
