-- Nothing moves but what the die tells.
use Rattle.cell_die.specs.Power.{with_cut}
use Rattle.rssd_core.proofs.RecycledLaws.{told_held, told_store}
use Rattle.rssd_core.proofs.store.Store.arm_cut.Goals as goal

pub invariant_of-self : goal.invariant_of-self
invariant_of-self g c = told_held c.self.invariant (with_cut c.args.n c.args.torn) c.arm_cut.ensures

pub returns : goal.returns
returns g c = told_store c.self.invariant (with_cut c.args.n c.args.torn) c.arm_cut.ensures c.self.view_is
