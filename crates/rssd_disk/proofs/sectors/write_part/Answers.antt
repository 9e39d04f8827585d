-- A part that fills its sector is the row; another part changes the row that was read.
use Rattle.std.proofs.Common.{ℕ, List, ◌+◌, ◌-◌, ◌≡◌, refl, ◌∙◌, arith}
use borrow.Rule.Slice.PartMut.{put_mid}
use Rattle.std.proofs.lemmas.Result.{on_ok_weaker, on_err_weaker}
use Rattle.rssd_core.specs.DeviceValue.{DeviceValue}
use Rattle.rssd_disk.proofs.Joined.{put_mid_is}
use Rattle.rssd_disk.proofs.Rows.{whole_put, whole_fails, Changes, change_put, change_fails}
use Rattle.rssd_disk.proofs.sectors.write_part.Goals as goal

pub returns-then-part-size : goal.returns-then-part-size
returns-then-part-size g c =
    let old : DeviceValue = g.F.Device.device c.args.ftl.now in
    let new : DeviceValue = g.F.Device.device c.write_whole.new.ftl in
    let bytes : List ℕ = c.args.bytes.now in
    let full : c.args.part.count ≡ old.numbers.geometry.sector_bytes = c.if-part-size.true ∙ c.sector_bytes-size.ensures in
    record {
      put = on_ok_weaker c.write_whole.result (whole_put old.numbers c.args.part bytes bytes old new c.requires.sizes c.requires.part full refl c.requires.whole) c.write_whole.ensures.put;
      fault = on_err_weaker c.write_whole.result (whole_fails old.numbers c.args.part bytes bytes old new c.requires.sizes c.requires.part full refl c.requires.whole) c.write_whole.ensures.fault;
    }

pub returns : goal.returns
returns g c =
    let old : DeviceValue = g.F.Device.device c.args.ftl.now in
    let mid : DeviceValue = g.F.Device.device c.read_whole.new.ftl in
    let new : DeviceValue = g.F.Device.device c.write_whole-2.new.ftl in
    let row : List ℕ = c.read_whole.new.row in
    let count : ℕ = c.args.part.start + c.args.part.count - c.args.part.start in
    let changed : List ℕ = put_mid c.args.part.start count row c.copy_from_slice.new.self in
    let changes : Changes old.numbers c.args.part c.args.bytes.now row changed old mid = record {
      sizes = c.requires.sizes;
      fits = c.requires.part;
      whole = c.requires.whole;
      same = c.in_ok-read_whole.ensures.same;
      numbers = c.in_ok-read_whole.ensures.same.keeps.numbers;
      row_is = c.in_ok-read_whole.ensures.row;
      long = c.read_whole.ensures.whole;
      changed_is = put_mid_is c.args.part.start count c.args.bytes.now row c.copy_from_slice.new.self c.copy_from_slice.ensures.after (omega (arith, c.requires.whole));
    } in
    record {
      put = on_ok_weaker c.write_whole-2.result (change_put old.numbers c.args.part c.args.bytes.now row changed old mid new changes) c.write_whole-2.ensures.put;
      fault = on_err_weaker c.write_whole-2.result (change_fails old.numbers c.args.part c.args.bytes.now row changed old mid new changes) c.write_whole-2.ensures.fault;
    }
