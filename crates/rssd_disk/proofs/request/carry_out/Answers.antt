-- Each change is kept already: a flush has nothing to do.
use Rattle.rssd_core.specs.DeviceValue.{DeviceValue}
use Rattle.rssd_disk.proofs.Carried.{serves_flush}
use Rattle.rssd_disk.proofs.request.carry_out.Goals as goal

pub returns-in-Flush : goal.returns-in-Flush
returns-in-Flush g c =
    let old : DeviceValue = g.F.Device.device c.args.ftl.now in
    serves_flush old.numbers c.args.request.now c.args.bytes.now old c.in-Flush.is c.requires.running
