-- The picked node goes from the order and its chain to the unused ones.
use Rattle.std.proofs.Common.{◌≡◌, ℕ, ◌+◌, ◌-◌, List, cond, set, sym, ap, ◌∙◌, subst, arith}
use Rattle.std.proofs.lemmas.List.{get_or_default, get_or-map, length-map}
use Rattle.block_links.specs.Lists.{Lists}
use Rattle.rssd_queue.specs.declared.ask.Tagged.{Tagged}
use Rattle.rssd_queue.specs.Waiting.{no_command, IsAsked}
use Rattle.rssd_queue.specs.Kept.{IsPickedNode, in_node, commands_in, order_in}
use Rattle.rssd_queue.proofs.Fields.{kept_taken, picked_waits, picked_within, picked_listed, picked_asked, place_zero, commands_left}
use Rattle.rssd_queue.proofs.queue.Queue.next.Goals as goal

pub is_oldest-requires-clause-node : goal.is_oldest-requires-clause-node
is_oldest-requires-clause-node c =
    let within = picked_within _ _ _ _ _ _ _ c.self.invariant c.in_ok-node.node (rw c.deref.ensures.value at c.in_ok-node.ensures.picked) in
    let count = c.self.invariant.node_count in
    omega arith

pub release-requires-clause-waits : goal.release-requires-clause-waits
release-requires-clause-waits c =
    rw c.in_ok-node.ensures.order (picked_waits _ _ _ _ _ _ _ c.self.invariant c.in_ok-node.node (rw c.deref.ensures.value at c.in_ok-node.ensures.picked))

pub unlink-requires : goal.unlink-requires
unlink-requires c = picked_listed _ _ _ _ _ _ _ c.self.invariant c.in_ok-node.node (rw c.deref.ensures.value at c.in_ok-node.ensures.picked)

pub index_mut-requires : goal.index_mut-requires
index_mut-requires c =
    let within = picked_within _ _ _ _ _ _ _ c.self.invariant c.in_ok-node.node (rw c.deref.ensures.value at c.in_ok-node.ensures.picked) in
    omega arith

pub invariant_of-self-2 : goal.invariant_of-self-2
invariant_of-self-2 c =
    let picked : IsPickedNode c.self.inside.nodes.items (order_in c.self.inside.order) c.self.inside.passed c.in_ok-node.node = rw c.deref.ensures.value at c.in_ok-node.ensures.picked in
    let passed : ℕ = c.self.inside.passed in
    let oldest = rw c.in_ok-node.ensures.order at c.is_oldest.ensures in
    let passed_is = c.passed_once_more-self-inside.ensures ∙ ap (λ b. cond b 0 (passed + 1)) (oldest ∙ place_zero _ _ _ _ _ _ _ c.self.invariant c.in_ok-node.node picked) in
    let released = rw c.in_ok-node.ensures.order at c.release.ensures.released in
    rw (c.replace.ensures.after, c.no_command.ensures)
    (kept_taken _ _ _ _ _ _ _ c.self.invariant c.in_ok-node.node picked c.release.new.order c.unlink.new.self (c.self.inside.waiting - 1) c.passed_once_more-self-inside.result
    released c.release.ensures.nodes c.unlink.ensures.lists (λ i. c.self.inside.waiting - 1) passed_is)

pub returns-clause-taken : goal.returns-clause-taken
returns-clause-taken c =
    let picked : IsPickedNode c.self.inside.nodes.items (order_in c.self.inside.order) c.self.inside.passed c.in_ok-node.node = rw c.deref.ensures.value at c.in_ok-node.ensures.picked in
    let nodes : List Tagged = c.self.inside.nodes.items in
    let ws : List ℕ = order_in c.self.inside.order in
    let n : ℕ = c.in_ok-node.node in
    let passed : ℕ = c.self.inside.passed in
    let oldest = rw c.in_ok-node.ensures.order at c.is_oldest.ensures in
    let passed_is = c.passed_once_more-self-inside.ensures ∙ ap (λ b. cond b 0 (passed + 1)) (oldest ∙ place_zero _ _ _ _ _ _ _ c.self.invariant n picked) in
    let released = rw c.in_ok-node.ensures.order at c.release.ensures.released in
    let commands = ap (λ (d : Tagged). commands_in (set nodes n d) (order_in c.release.new.order)) (c.replace.ensures.after ∙ c.no_command.ensures)
    ∙ ap (λ (o : Lists). commands_in (set nodes n no_command) (order_in o)) released
    ∙ commands_left _ _ _ _ _ _ _ c.self.invariant n picked in
    let within = picked_within _ _ _ _ _ _ _ c.self.invariant n picked in
    let command : in_node nodes n ≡ c.replace.result = get_or_default nodes n no_command c.index_mut.result.now within ∙ sym c.index_mut.ensures.value ∙ sym c.replace.ensures.value in
    rw (← c.self.view_is) (record {
      place = picked.place;
      within = rw length-map picked.within;
      pick = picked.pick;
      command = get_or-map (in_node nodes) ws picked.place 0 no_command picked.within ∙ ap (in_node nodes) picked.node ∙ command;
      rest = λ i. record { commands = commands i; passed = passed_is i; sectors = c.self.inside.sectors; sector_bytes = c.self.inside.sector_bytes };
    })

pub returns-clause-asked : goal.returns-clause-asked
returns-clause-asked c =
    let picked : IsPickedNode c.self.inside.nodes.items (order_in c.self.inside.order) c.self.inside.passed c.in_ok-node.node = rw c.deref.ensures.value at c.in_ok-node.ensures.picked in
    let nodes : List Tagged = c.self.inside.nodes.items in
    let n : ℕ = c.in_ok-node.node in
    let within = picked_within _ _ _ _ _ _ _ c.self.invariant n picked in
    let command : in_node nodes n ≡ c.replace.result = get_or_default nodes n no_command c.index_mut.result.now within ∙ sym c.index_mut.ensures.value ∙ sym c.replace.ensures.value in
    rw (← c.self.view_is) (subst (λ (d : Tagged). IsAsked c.self.inside.sectors c.self.inside.sector_bytes d.ask) command (picked_asked _ _ _ _ _ _ _ c.self.invariant n picked))
