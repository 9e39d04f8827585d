-- What is written is zeros.
use Rattle.std.proofs.Common.{replicate}
use Rattle.rssd_core.specs.DeviceValue.{DeviceValue}
use Rattle.rssd_disk.specs.Disk.{disk}
use Rattle.rssd_disk.proofs.Carried.{serves_put, fails_put, zeroes_put, zeroes_answer}
use Rattle.rssd_disk.proofs.request.answer_zeroes.Goals as goal

pub returns-in-Ok : goal.returns-in-Ok
returns-in-Ok g c =
    let old : DeviceValue = g.F.Device.device c.args.ftl.now in
    serves_put old.numbers c.args.request.now c.args.bytes.now (replicate c.args.request.now.length 0) old (g.F.Device.device c.put_bytes.new.ftl)
    (zeroes_put c.args.request.now c.args.bytes.now c.requires.command) (zeroes_answer c.args.request.now c.args.bytes.now (disk old.numbers old.view) c.requires.command) c.in-Ok.ensures.put

pub returns-in-Err : goal.returns-in-Err
returns-in-Err g c =
    let old : DeviceValue = g.F.Device.device c.args.ftl.now in
    fails_put old.numbers c.args.request.now c.args.bytes.now (replicate c.args.request.now.length 0) old (g.F.Device.device c.put_bytes.new.ftl)
    (zeroes_put c.args.request.now c.args.bytes.now c.requires.command) c.in-Err.ensures.fault
