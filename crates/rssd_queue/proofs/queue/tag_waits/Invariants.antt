use Rattle.std.proofs.Common.{◌≡◌, ℕ, ◌<◌}
use Rattle.block_links.specs.Lists.{times}
use Rattle.rssd_queue.specs.Kept.{in_node, order_in}
use Rattle.rssd_queue.proofs.queue.tag_waits.Given as goal

abbrev pub invariant-loop-node : goal.invariant-loop-node
invariant-loop-node l = (m : ℕ) → m < l.node → 0 < times m (order_in l.order) → (in_node l.nodes m).tag ≡ l.tag → ⊥
