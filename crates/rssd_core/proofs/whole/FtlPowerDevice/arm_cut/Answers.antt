-- Nothing moves but what the die tells.
use Rattle.cell_die.specs.Power.{told, with_cut}
use Rattle.rssd_core.proofs.DeviceLaws.{device_told, still_settled}
use Rattle.rssd_core.proofs.whole.FtlPowerDevice.arm_cut.Goals as goal

pub invariant_of-self : goal.invariant_of-self
invariant_of-self g c = still_settled (told (with_cut c.args.n c.args.torn)) c.self.inside.store c.self.inside.reuse_max c.arm_cut.ensures c.self.invariant

pub returns : goal.returns
returns g c = device_told g.C.Scheme.meaning (told (with_cut c.args.n c.args.torn)) c.self.view_is c.arm_cut.ensures
