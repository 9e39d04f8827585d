use Rattle.rssd_core.specs.DeviceValue.{DeviceValue}
use Rattle.rssd_run.proofs.Stepped.{fail_read_steps}
use Rattle.rssd_run.proofs.run.line.fail_read_line.Goals as goal

pub returns-clause-step : goal.returns-clause-step
returns-clause-step g c =
    let old : DeviceValue = g.F.Device.device c.args.ftl.now in
    rw c.fail_read.ensures (fail_read_steps old.numbers old c.args.n c.requires.some c.requires.kept c.requires.running)
