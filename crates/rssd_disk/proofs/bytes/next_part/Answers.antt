-- A place on the disk lies in a sector, and the next part goes to its end or to that of the bytes.
use Rattle.std.proofs.Common.{◌+◌, ◌*◌, ◌^◌, ◌<◌, arith}
use Rattle.rssd_core.specs.DeviceValue.{Numbers}
use Rattle.rssd_disk.proofs.Loops.{is_next, sector_below, small_place}
use Rattle.rssd_disk.proofs.bytes.next_part.Goals as goal

pub overflow_add-place : goal.overflow_add-place
overflow_add-place g c =
    let d : Numbers = (g.F.Device.device c.args.ftl.now).numbers in
    let small : c.args.place + c.args.done < 2 ^ 63 = small_place d (c.args.place + c.args.done) c.requires.sizes (omega (arith, c.requires.within, c.requires.more)) in
    omega arith

pub part_at-requires-clause-low : goal.part_at-requires-clause-low
part_at-requires-clause-low g c =
    let d : Numbers = (g.F.Device.device c.args.ftl.now).numbers in
    let below : c.args.place + c.args.done < d.geometry.sectors * d.geometry.sector_bytes = omega (arith, c.requires.within, c.requires.more) in
    omega (arith, sector_below d (c.args.place + c.args.done) c.sector_bytes.result c.requires.sizes c.sector_bytes.ensures below, c.requires.sizes.small)

pub returns : goal.returns
returns g c =
    is_next (g.F.Device.device c.args.ftl.now).numbers c.args.place c.args.count c.args.done c.sector_bytes.result c.part_at.result c.requires.sizes c.sector_bytes.ensures
    c.requires.within c.requires.more
    c.part_at.ensures.sector c.part_at.ensures.start c.part_at.ensures.count
