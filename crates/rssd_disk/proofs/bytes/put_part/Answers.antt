-- Zeros that lie among zeros are put as those.
use Rattle.std.proofs.Common.{List, ℕ, subst}
use Rattle.std.proofs.lemmas.Result.{on_ok_weaker, on_err_weaker}
use Rattle.rssd_core.specs.DeviceValue.{DeviceValue}
use Rattle.rssd_disk.specs.Disk.{place_of}
use Rattle.rssd_disk.specs.Puts.{HasPut, PartFails}
use Rattle.rssd_disk.proofs.Loops.{part_of_zeros}
use Rattle.rssd_disk.proofs.bytes.put_part.Goals as goal

pub returns-in-Zeros : goal.returns-in-Zeros
returns-in-Zeros g c =
    let old : DeviceValue = g.F.Device.device c.args.ftl.now in
    let new : DeviceValue = g.F.Device.device c.zero_part.new.ftl in
    let place : ℕ = place_of old.numbers c.args.part in
    let same = part_of_zeros c.args.done c.args.part.count c.in-Zeros.is c.requires.within in
    record {
      put = on_ok_weaker c.zero_part.result (subst (λ (l : List ℕ). HasPut old.numbers place l old new) same) c.zero_part.ensures.put;
      fault = on_err_weaker c.zero_part.result (subst (λ (l : List ℕ). PartFails old.numbers place l old new) same) c.zero_part.ensures.fault;
    }
