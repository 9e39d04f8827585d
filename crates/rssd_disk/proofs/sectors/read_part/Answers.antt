-- What is read of the sector is read of the disk.
use Rattle.std.proofs.Common.{◌+◌, ◌-◌, ◌≡◌, take, drop, ap, ◌∙◌, arith}
use Rattle.rssd_core.specs.DeviceValue.{Numbers, DeviceView}
use Rattle.rssd_disk.proofs.Rows.{read_row}
use Rattle.rssd_disk.proofs.sectors.read_part.Goals as goal

pub returns-clause-read : goal.returns-clause-read
returns-clause-read g c =
    let d : Numbers = (g.F.Device.device c.args.ftl.now).numbers in
    let view : DeviceView = (g.F.Device.device c.args.ftl.now).view in
    let count : c.args.part.start + c.args.part.count - c.args.part.start ≡ c.args.part.count = omega arith in
    read_row d c.args.part.sector c.args.part.start c.args.part.count view c.read_whole.new.row c.copy_from_slice.new.self c.requires.sizes c.requires.part.sector c.requires.part.within
    c.in_ok-read_whole.ensures.row c.read_whole.ensures.whole (c.copy_from_slice.ensures.after ∙ ap (λ n. take n (drop c.args.part.start c.read_whole.new.row)) count)
