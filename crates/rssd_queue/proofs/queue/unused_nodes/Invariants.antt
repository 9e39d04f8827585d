use Rattle.std.proofs.Common.{◌≡◌, length}
use Rattle.rssd_queue.proofs.queue.unused_nodes.Given as goal

abbrev pub invariant-loop : goal.invariant-loop
invariant-loop l = length l.nodes.items ≡ l.counter
