-- One more node went to the back, and was looked at.
use Rattle.std.proofs.Common.{ℕ, ◌<◌, ◌∷◌, [], length, take, get_or, sym, ap, ◌∙◌, arith}
use Rattle.std.specs.List.{find}
use Rattle.std.specs.Option.{option_or}
use Rattle.std.proofs.lemmas.List.{take_more}
use Rattle.std.proofs.lemmas.List.Folds.{find-append}
use Rattle.rssd_queue.specs.Kept.{order_in, is_free_node}
use Rattle.rssd_queue.proofs.FreeReads.{stands_at}
use Rattle.rssd_queue.proofs.Turning.{turned_node, turned_more}
use Rattle.rssd_queue.proofs.pick.first_free.Goals as goal

pub found_or-found-requires-clause-node : goal.found_or-found-requires-clause-node
found_or-found-requires-clause-node c =
    let within : c.loop.counter < length (order_in c.args.order.now) = omega arith in
    let node = turned_node c.args.order.now c.loop.order c.turn-node.new.order c.loop.counter c.turn-node.result within c.loop.invariant.order c.turn-node.ensures.front c.turn-node.ensures.turned in
    let stands = stands_at (order_in c.args.order.now) c.loop.counter c.turn-node.result within node in
    let below = c.requires.nodes.below c.turn-node.result (omega arith) in
    omega arith

pub found_or-found-requires-clause-sector : goal.found_or-found-requires-clause-sector
found_or-found-requires-clause-sector c =
    let within : c.loop.counter < length (order_in c.args.order.now) = omega arith in
    let node = turned_node c.args.order.now c.loop.order c.turn-node.new.order c.loop.counter c.turn-node.result within c.loop.invariant.order c.turn-node.ensures.front c.turn-node.ensures.turned in
    c.requires.sectors c.turn-node.result (stands_at (order_in c.args.order.now) c.loop.counter c.turn-node.result within node)

pub loop-preserved : goal.loop-preserved
loop-preserved c =
    let free = is_free_node c.args.nodes.now c.args.chains.now in
    let ws = order_in c.args.order.now in
    let k : ℕ = c.loop.counter in
    let within : k < length ws = omega arith in
    let node = turned_node c.args.order.now c.loop.order c.turn-node.new.order k c.turn-node.result within c.loop.invariant.order c.turn-node.ensures.front c.turn-node.ensures.turned in
    record {
      nodes = c.turn-node.ensures.nodes;
      order = turned_more c.args.order.now c.loop.order c.turn-node.new.order k c.turn-node.result within c.loop.invariant.order c.turn-node.ensures.front c.turn-node.ensures.turned;
      found = c.found_or-found.ensures ∙ ap (λ f. option_or f (find free (c.turn-node.result ∷ []))) c.loop.invariant.found
          ∙ ap (λ n. option_or (find free (take k ws)) (find free (n ∷ []))) (sym node)
          ∙ sym (find-append free (take k ws) (get_or ws k 0 ∷ [])) ∙ ap (find free) (sym (take_more ws k 0 within));
    }
