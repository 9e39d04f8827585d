-- A part that fills its sector is trimmed; another part is written with zeros.
use Rattle.std.proofs.Common.{ℕ, List, ◌≡◌, length, replicate, take, ap, ◌∙◌, sym, subst, arith}
use Rattle.std.proofs.lemmas.List.{length-replicate, take-replicate}
use Rattle.std.proofs.lemmas.Result.{on_ok_weaker, on_err_weaker}
use Rattle.rssd_core.specs.DeviceValue.{DeviceValue}
use Rattle.rssd_core.specs.Outcomes.{zeros}
use Rattle.rssd_disk.specs.Disk.{place_of}
use Rattle.rssd_disk.specs.Puts.{HasPut, PartFails}
use Rattle.rssd_disk.proofs.Rows.{whole_put, whole_fails}
use Rattle.rssd_disk.proofs.sectors.zero_part.Goals as goal

pub returns-then-part-sector_bytes : goal.returns-then-part-sector_bytes
returns-then-part-sector_bytes g c =
    let old : DeviceValue = g.F.Device.device c.args.ftl.now in
    let new : DeviceValue = g.F.Device.device c.zero_whole.new.ftl in
    let none : List ℕ = replicate c.args.part.count 0 in
    let full : c.args.part.count ≡ old.numbers.geometry.sector_bytes = c.if-part-sector_bytes.true ∙ c.sector_bytes.ensures in
    let same : none ≡ zeros old.numbers = ap (λ n. replicate n 0) full in
    let long : length (zeros old.numbers) ≡ c.args.part.count = length-replicate old.numbers.geometry.sector_bytes 0 ∙ sym full in
    record {
      put = on_ok_weaker c.zero_whole.result (whole_put old.numbers c.args.part none (zeros old.numbers) old new c.requires.sizes c.requires.part full same long) c.zero_whole.ensures.put;
      fault = on_err_weaker c.zero_whole.result (whole_fails old.numbers c.args.part none (zeros old.numbers) old new c.requires.sizes c.requires.part full same long) c.zero_whole.ensures.fault;
    }

pub returns : goal.returns
returns g c =
    let old : DeviceValue = g.F.Device.device c.args.ftl.now in
    let new : DeviceValue = g.F.Device.device c.write_part.new.ftl in
    let place : ℕ = place_of old.numbers c.args.part in
    let same : take c.args.part.count (replicate 512 0) ≡ replicate c.args.part.count 0 = take-replicate c.args.part.count 512 0 (omega (arith, c.requires.sizes.few, c.requires.part.within)) in
    record {
      put = on_ok_weaker c.write_part.result (subst (λ (l : List ℕ). HasPut old.numbers place l old new) same) c.write_part.ensures.put;
      fault = on_err_weaker c.write_part.result (subst (λ (l : List ℕ). PartFails old.numbers place l old new) same) c.write_part.ensures.fault;
    }
