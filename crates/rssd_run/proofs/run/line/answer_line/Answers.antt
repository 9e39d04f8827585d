use Rattle.rssd_core.specs.DeviceValue.{DeviceValue}
use Rattle.rssd_run.proofs.Answered.{answered_steps}
use Rattle.rssd_run.proofs.run.line.answer_line.Goals as goal

pub returns-in_default-clause-step : goal.returns-in_default-clause-step
returns-in_default-clause-step g c =
    let old : DeviceValue = g.F.Device.device c.args.ftl.now in
    let new : DeviceValue = g.F.Device.device c.play_line.new.ftl in
    answered_steps old.numbers old new c.requires.kept c.requires.running c.args.line.now c.play_line.new.reply c.play_line.ensures
