-- The first free node holds the first free read; where there is none, the front of the order holds the oldest.
use Rattle.std.proofs.Common.{ℕ, ◌≤◌, inl, inr, refl, sym, arith}
use Rattle.block_links.specs.Lists.{times}
use Rattle.rssd_queue.specs.Kept.{order_in}
use Rattle.rssd_queue.proofs.FreeReads.{found_is, none_is}
use Rattle.rssd_queue.proofs.pick.pick.Goals as goal

pub returns-in-Some-clause-picked : goal.returns-in-Some-clause-picked
returns-in-Some-clause-picked c =
    let once : (n : ℕ) → times n (order_in c.args.order.now) ≤ 1 = λ n. let o = c.requires.nodes.once n in omega arith in
    let found = found_is _ _ _ _ c.requires.chains once c.in-Some.node (sym c.in-Some.ensures.found) in
    record { place = found.place; within = found.within; node = found.node; pick = inl (c.if-passed-ge-MOST_PASSED.false, found.first) }

pub returns-in-None-clause-picked : goal.returns-in-None-clause-picked
returns-in-None-clause-picked c =
    let once : (n : ℕ) → times n (order_in c.args.order.now) ≤ 1 = λ n. let o = c.requires.nodes.once n in omega arith in
    let front = c.in_ok-oldest.ensures.first in
    record { place = 0; within = front.0; node = front.1; pick = inr (refl, λ few. none_is _ _ _ _ c.requires.chains once (sym c.in-None.ensures.found)) }
