-- The one call of the device is its line's.
use Rattle.rssd_core.specs.DeviceValue.{DeviceValue}
use Rattle.rssd_run.proofs.ServedSteps.{device_serves}
use Rattle.rssd_run.proofs.run.served.serve_on.Goals as goal

pub returns-clause-served : goal.returns-clause-served
returns-clause-served g c =
    let old : DeviceValue = g.F.Device.device c.args.ftl.now in
    let new : DeviceValue = g.F.Device.device c.serve.new.ftl in
    device_serves old.numbers c.args.queue.now c.serve.new.self c.in_ok-answered.answered.tag c.in_ok-answered.answered.answer c.reply_to.result old new c.requires.running c.requires.kept
    c.reply_to.ensures c.in_ok-answered.ensures.served
