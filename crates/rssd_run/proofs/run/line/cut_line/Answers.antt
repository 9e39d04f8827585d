use Rattle.rssd_core.specs.DeviceValue.{DeviceValue}
use Rattle.rssd_run.proofs.Stepped.{cut_steps}
use Rattle.rssd_run.proofs.run.line.cut_line.Goals as goal

pub returns-clause-step : goal.returns-clause-step
returns-clause-step g c =
    let old : DeviceValue = g.F.Device.device c.args.ftl.now in
    rw c.arm_cut.ensures (rw c.torn_of.ensures (cut_steps old.numbers old c.args.n c.args.torn c.requires.some c.requires.kept c.requires.running))
