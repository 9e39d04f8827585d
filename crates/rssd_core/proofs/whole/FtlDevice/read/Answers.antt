-- The store reads the sector, and nothing moves but its die.
use Rattle.rssd_core.proofs.DeviceLaws.{device_stays, still_settled}
use Rattle.rssd_core.proofs.whole.FtlDevice.read.Goals as goal

pub returns-in_err-check-clause-holds : goal.returns-in_err-check-clause-holds
returns-in_err-check-clause-holds g c = device_stays g.C.Scheme.meaning c.self.view_is c.check.ensures.stands c.self.invariant

pub invariant_of-self : goal.invariant_of-self
invariant_of-self g c = still_settled (λ _. c.read.new.self.cells.die) c.self.inside.store c.self.inside.reuse_max c.read.ensures.same c.self.invariant
