-- What is written is what the request brings.
use Rattle.rssd_core.specs.DeviceValue.{DeviceValue}
use Rattle.rssd_disk.specs.Disk.{disk}
use Rattle.rssd_disk.proofs.Carried.{serves_put, fails_put, write_puts, write_answers}
use Rattle.rssd_disk.proofs.request.answer_write.Goals as goal

pub returns-in-Ok : goal.returns-in-Ok
returns-in-Ok g c =
    let old : DeviceValue = g.F.Device.device c.args.ftl.now in
    serves_put old.numbers c.args.request.now c.args.bytes.now c.args.bytes.now old (g.F.Device.device c.put_bytes.new.ftl)
    (write_puts c.args.request.now c.args.bytes.now c.requires.command) (write_answers c.args.request.now c.args.bytes.now (disk old.numbers old.view) c.requires.command) c.in-Ok.ensures.put

pub returns-in-Err : goal.returns-in-Err
returns-in-Err g c =
    let old : DeviceValue = g.F.Device.device c.args.ftl.now in
    fails_put old.numbers c.args.request.now c.args.bytes.now c.args.bytes.now old (g.F.Device.device c.put_bytes.new.ftl) (write_puts c.args.request.now c.args.bytes.now c.requires.command)
    c.in-Err.ensures.fault
