-- The command stands in an unused node, which goes to the back of the order and of its sector's chain.
use Rattle.std.proofs.Common.{ℕ, ◌+◌, ◌∷◌, ◌++◌, [], List, ap, ◌∙◌, set}
use Rattle.block_links.specs.Lists.{Lists}
use Rattle.rssd_queue.specs.declared.ask.Tagged.{Tagged}
use Rattle.rssd_queue.specs.Kept.{commands_in, order_in}
use Rattle.rssd_queue.proofs.Fields.{kept_put, put_free, commands_more, accepted_fits}
use Rattle.rssd_queue.proofs.queue.Queue.accept.Goals as goal

pub push_back-requires-clause-free : goal.push_back-requires-clause-free
push_back-requires-clause-free c =
    let in_range = rw (← c.self.view_is) at c.requires.in_range in
    let long = rw (← c.self.view_is) at c.requires.fits in
    let fits = accepted_fits c.self.inside.sector_bytes c.self.inside.sectors c.args.command c.filled-command.result c.filled-command.ensures in_range long in
    put_free _ _ _ _ _ _ _ c.self.invariant c.take_unused-node.result c.filled-command.result c.take_unused-node.ensures.unused fits.0 fits.1

pub invariant_of-self : goal.invariant_of-self
invariant_of-self c =
    let in_range = rw (← c.self.view_is) at c.requires.in_range in
    let long = rw (← c.self.view_is) at c.requires.fits in
    let fits = accepted_fits c.self.inside.sector_bytes c.self.inside.sectors c.args.command c.filled-command.result c.filled-command.ensures in_range long in
    kept_put _ _ _ _ _ _ _ c.self.invariant c.take_unused-node.result c.filled-command.result c.take_unused-node.ensures.unused fits.0 fits.1
    c.take_unused-node.new.order c.push_back.new.self (c.self.inside.waiting + 1) c.take_unused-node.ensures.taken c.take_unused-node.ensures.nodes
    (rw (← c.sector.ensures) c.push_back.ensures) (λ i. c.self.inside.waiting + 1)

pub returns : goal.returns
returns c =
    let size : ℕ = c.self.inside.sector_bytes in
    let command : Tagged = c.filled-command.result in
    let nodes : List Tagged = c.self.inside.nodes.items in
    let ws : List ℕ = order_in c.self.inside.order in
    let in_range = rw (← c.self.view_is) at c.requires.in_range in
    let long = rw (← c.self.view_is) at c.requires.fits in
    let fits = accepted_fits size c.self.inside.sectors c.args.command command c.filled-command.ensures in_range long in
    let commands = ap (λ (o : Lists). commands_in (set nodes c.take_unused-node.result command) (order_in o)) c.take_unused-node.ensures.taken
    ∙ commands_more _ _ _ _ _ _ _ c.self.invariant c.take_unused-node.result command c.take_unused-node.ensures.unused fits.0 fits.1
    ∙ ap (λ (d : Tagged). commands_in nodes ws ++ d ∷ []) c.filled-command.ensures in
    rw (← c.self.view_is) (λ i. record { commands = commands i; passed = c.self.inside.passed; sectors = c.self.inside.sectors; sector_bytes = size })
