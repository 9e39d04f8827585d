-- Nothing moves but what the die tells.
use Rattle.cell_die.specs.Power.{with_read_failure}
use Rattle.rssd_core.proofs.RecycledLaws.{told_held, told_store}
use Rattle.rssd_core.proofs.store.Store.fail_read.Goals as goal

pub invariant_of-self : goal.invariant_of-self
invariant_of-self g c = told_held c.self.invariant (with_read_failure c.args.n) c.fail_read.ensures

pub returns : goal.returns
returns g c = told_store c.self.invariant (with_read_failure c.args.n) c.fail_read.ensures c.self.view_is
