-- The front stands once in the order, so it leaves the rest.
use Rattle.std.proofs.Common.{◌≤◌, ◌∷◌, ◌++◌, [], sym, ap, ◌∙◌, subst, arith}
use Rattle.block_links.specs.Lists.{Lists, times}
use Rattle.rssd_queue.specs.Kept.{HasNodes, order_in, unused_in}
use Rattle.rssd_queue.proofs.Nodes.{to_back, has_turned, order_listed, order_within, order_removed, front_stands, without-front}
use Rattle.rssd_queue.proofs.order.turn.Goals as goal

pub unlink-requires : goal.unlink-requires
unlink-requires c = order_listed c.args.order.now c.requires.nodes c.in-Some.node (front_stands _ _ c.in-Some.ensures.first)

pub push_back-requires-clause-bucket : goal.push_back-requires-clause-bucket
push_back-requires-clause-bucket c =
    let some = front_stands _ _ c.in-Some.ensures.first in
    rw (c.unlink.ensures.lists, order_removed c.args.order.now c.requires.nodes c.in-Some.node some) (omega arith)

pub push_back-requires-clause-node : goal.push_back-requires-clause-node
push_back-requires-clause-node c =
    let some = front_stands _ _ c.in-Some.ensures.first in
    rw (c.unlink.ensures.lists, c.requires.nodes.nodes) (order_within c.args.order.now c.requires.nodes c.in-Some.node some)

pub returns-clause-turned : goal.returns-clause-turned
returns-clause-turned c =
    let o : Lists = c.args.order.now in
    let some = front_stands _ _ c.in-Some.ensures.first in
    let once : times c.in-Some.node (order_in o) ≤ 1 = let u = c.requires.nodes.once c.in-Some.node in omega arith in
    to_back o c.requires.nodes c.in-Some.node some c.unlink.new.self c.push_back.new.self c.unlink.ensures.lists c.push_back.ensures
    ∙ ap (λ xs. record o { lists = (xs ++ c.in-Some.node ∷ []) ∷ unused_in o ∷ [] }) (without-front _ _ c.in-Some.ensures.first once)

pub returns-clause-nodes : goal.returns-clause-nodes
returns-clause-nodes c =
    let o : Lists = c.args.order.now in
    let some = front_stands _ _ c.in-Some.ensures.first in
    subst HasNodes (sym (to_back o c.requires.nodes c.in-Some.node some c.unlink.new.self c.push_back.new.self c.unlink.ensures.lists c.push_back.ensures))
    (has_turned o c.requires.nodes c.in-Some.node some)
