-- What is read answers the request.
use Rattle.rssd_core.specs.DeviceValue.{DeviceValue}
use Rattle.rssd_disk.proofs.Carried.{serves_read, fails_read}
use Rattle.rssd_disk.proofs.request.answer_read.Goals as goal

pub returns-in-Ok : goal.returns-in-Ok
returns-in-Ok g c =
    let old : DeviceValue = g.F.Device.device c.args.ftl.now in
    serves_read old.numbers c.args.request.now c.args.bytes.now c.read_bytes.new.into old (g.F.Device.device c.read_bytes.new.ftl) c.requires.command c.requires.room c.in-Ok.ensures.same
    c.in-Ok.ensures.read

pub returns-in-Err : goal.returns-in-Err
returns-in-Err g c =
    let old : DeviceValue = g.F.Device.device c.args.ftl.now in
    fails_read old.numbers c.args.request.now c.args.bytes.now old (g.F.Device.device c.read_bytes.new.ftl) c.requires.command c.in-Err.ensures.fault
