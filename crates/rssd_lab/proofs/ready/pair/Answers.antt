-- Two blank dies as one have the shape of their head, and no mount of them fails.
use Rattle.cell_die.specs.DieState.{DieState}
use Rattle.mem_die.specs.MemState.{mem_state}
use Rattle.stripe_die.specs.Pair.{pair_state}
use Rattle.rssd_run.specs.Heads.{numbers_named}
use Rattle.rssd_run.proofs.PairPlays.{pair_blank, pair_mounts}
use Rattle.rssd_lab.proofs.ready.pair.Goals as goal

pub invariant_of-result-clause-shape : goal.invariant_of-result-clause-shape
invariant_of-result-clause-shape c =
    let die : DieState = pair_state (mem_state c.in_ok-die.die.a) (mem_state c.in_ok-die.die.b) in
    (pair_blank c.args.head die c.requires.even c.in_ok-die.ensures).same_shape

pub invariant_of-result-clause-mounts : goal.invariant_of-result-clause-mounts
invariant_of-result-clause-mounts c = λ new fails.
    let die : DieState = pair_state (mem_state c.in_ok-die.die.a) (mem_state c.in_ok-die.die.b) in
    pair_mounts c.args.head die c.requires.even c.in_ok-die.ensures (numbers_named c.args.head) _ fails
