use Rattle.rssd_queue.proofs.UnusedOrder.{next_unused}
use Rattle.rssd_queue.proofs.queue.unused_order.Goals as goal

pub loop-node-preserved : goal.loop-node-preserved
loop-node-preserved c = next_unused c.loop-node.order c.push_back.new.self c.loop-node.node c.loop-node.invariant c.push_back.ensures
