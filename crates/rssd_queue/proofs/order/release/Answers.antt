use Rattle.std.proofs.Common.{sym, subst, arith}
use Rattle.rssd_queue.specs.Kept.{HasNodes}
use Rattle.rssd_queue.proofs.Nodes.{to_unused, has_freed, order_listed, order_within, order_removed}
use Rattle.rssd_queue.proofs.order.release.Goals as goal

pub unlink-requires : goal.unlink-requires
unlink-requires c = order_listed c.args.order.now c.requires.nodes c.args.node c.requires.waits

pub push_back-requires-clause-bucket : goal.push_back-requires-clause-bucket
push_back-requires-clause-bucket c = rw (c.unlink.ensures.lists, order_removed c.args.order.now c.requires.nodes c.args.node c.requires.waits) (omega arith)

pub push_back-requires-clause-node : goal.push_back-requires-clause-node
push_back-requires-clause-node c = rw (c.unlink.ensures.lists, c.requires.nodes.nodes) (order_within c.args.order.now c.requires.nodes c.args.node c.requires.waits)

pub returns-clause-released : goal.returns-clause-released
returns-clause-released c =
    to_unused c.args.order.now c.requires.nodes c.args.node c.requires.waits c.unlink.new.self c.push_back.new.self c.unlink.ensures.lists c.push_back.ensures

pub returns-clause-nodes : goal.returns-clause-nodes
returns-clause-nodes c =
    subst HasNodes (sym (to_unused c.args.order.now c.requires.nodes c.args.node c.requires.waits c.unlink.new.self c.push_back.new.self c.unlink.ensures.lists c.push_back.ensures))
    (has_freed c.args.order.now c.requires.nodes c.args.node c.requires.waits)
