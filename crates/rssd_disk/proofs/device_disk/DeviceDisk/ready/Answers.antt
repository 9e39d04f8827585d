-- A mount that is refused hands back the same cells.
use Rattle.rssd_core.specs.Mount.{numbers_of}
use Rattle.rssd_disk.specs.Held.{SameHeld}
use Rattle.rssd_disk.specs.DeviceDisks.{holding}
use Rattle.rssd_disk.proofs.Mounting.{refused_same, runs_none}
use Rattle.rssd_disk.proofs.device_disk.DeviceDisk.ready.Goals as goal

pub returns-then-runs-clause-stays : goal.returns-then-runs-clause-stays
returns-then-runs-clause-stays g c =
    runs_none g.F.Device.device (SameHeld (holding g.D.Die.state g.C.Scheme.meaning g.F.Device.device c.args.self.now) (holding g.D.Die.state g.C.Scheme.meaning g.F.Device.device c.args.self.now))
    c.args.self.now.mounted
    (c.runs.ensures.0 c.if-runs.true)

pub returns-in-Err-clause-stays : goal.returns-in-Err-clause-stays
returns-in-Err-clause-stays g c =
    refused_same g.D.Die.state g.C.Scheme.meaning g.F.Device.device c.args.self.now.mounted c.args.self.now.closed c.close-die.result (c.in-Err.refused.die, c.in-Err.refused.scheme)
    (numbers_of (g.D.Die.state c.close-die.result.0).shape (g.C.Scheme.meaning c.close-die.result.1) c.close-die.new.self.plan) c.in-Err.refused.why c.close-die.ensures.gives
    c.in-Err.ensures.refused c.in-Err.ensures.scheme
