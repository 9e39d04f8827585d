use Rattle.rssd_queue.proofs.UnusedOrder.{IsUnusedBelow}
use Rattle.rssd_queue.proofs.queue.unused_order.Given as goal

abbrev pub invariant-loop-node : goal.invariant-loop-node
invariant-loop-node l = IsUnusedBelow l.order l.node
