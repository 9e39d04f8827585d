-- The nodes so far stand at the back, and the first free read among them was found.
use Rattle.std.proofs.Common.{◌≡◌, ◌∷◌, ◌++◌, [], take, drop}
use Rattle.std.specs.List.{find}
use Rattle.rssd_queue.specs.Kept.{HasNodes, order_in, unused_in, is_free_node}
use Rattle.rssd_queue.proofs.pick.first_free.Given as goal

abbrev pub invariant-loop : goal.invariant-loop
invariant-loop l = record {
  nodes : HasNodes l.order;
  order : l.order ≡ record l.initial.order { lists = (drop l.counter (order_in l.initial.order) ++ take l.counter (order_in l.initial.order)) ∷ unused_in l.initial.order ∷ [] };
  found : l.found ≡ find (is_free_node l.nodes l.chains) (take l.counter (order_in l.initial.order));
}
