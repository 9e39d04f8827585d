-- Each node of the order is below 32, and was looked at.
use Rattle.std.proofs.Common.{sym, ap, ◌∙◌, arith}
use Rattle.std.proofs.lemmas.List.{get_or_default}
use Rattle.rssd_queue.specs.Waiting.{no_command}
use Rattle.rssd_queue.specs.Kept.{order_in}
use Rattle.rssd_queue.proofs.Tags.{tag_found, tag_absent}
use Rattle.rssd_queue.proofs.queue.tag_waits.Goals as goal

pub returns-then-nodes-node : goal.returns-then-nodes-node
returns-then-nodes-node c =
    let read = ap (λ t. t.tag) (get_or_default c.args.nodes.now c.loop-node.node no_command c.index-nodes-node.result (omega arith)) in
    sym (tag_found c.args.nodes.now (order_in c.args.order.now) c.loop-node.node c.args.tag (c.is_waiting.ensures.waits c.if-is_waiting.true) (read ∙ c.if-nodes-node.true))

pub returns : goal.returns
returns c = sym (tag_absent c.args.nodes.now (order_in c.args.order.now) c.args.tag (λ n some. c.loop-node.invariant n (let b = c.requires.nodes.below n (omega arith) in omega arith) some))
