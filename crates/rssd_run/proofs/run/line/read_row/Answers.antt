use Rattle.std.proofs.Common.{ap, Err}
use Rattle.rssd_core.specs.SectorArray.{without_zeros}
use Rattle.rssd_core.specs.DeviceValue.{DeviceValue}
use Rattle.rssd_run.proofs.Errors.{range_no_fault, ok_in_range, fault_in_range}
use Rattle.rssd_run.proofs.run.line.read_row.Goals as goal

pub returns-in-Ok : goal.returns-in-Ok
returns-in-Ok g c =
    let old : DeviceValue = g.F.Device.device c.args.ftl.now in
    rw c.bytes_reply.ensures
    (record {
      in_range = ok_in_range c.in-Ok.field-0 c.args.sector old.numbers.geometry.sectors c.in-Ok.ensures.bad_sector.1;
      holds = c.in-Ok.ensures.holds;
      only_die = c.in-Ok.ensures.only_die;
      calls = c.in-Ok.ensures.calls;
      row = ap without_zeros c.in-Ok.ensures.row;
    })

pub returns-in-Err-BadSector : goal.returns-in-Err-BadSector
returns-in-Err-BadSector g c = (
  c.in-Err-BadSector.ensures.bad_sector.0 (ap Err c.in-Err-BadSector.field-0-is),
  c.in-Err-BadSector.ensures.refused (range_no_fault c.in-Err-BadSector.field-0 c.in-Err-BadSector.field-0-is),
)

pub returns-in-Err-DieFault : goal.returns-in-Err-DieFault
returns-in-Err-DieFault g c =
    let old : DeviceValue = g.F.Device.device c.args.ftl.now in
    let arm = c.in-Err-DieFault in
    record {
      in_range = fault_in_range arm.field-0 c.args.sector old.numbers.geometry.sectors arm.field-0-is arm.ensures.bad_sector.1;
      holds = arm.ensures.holds;
      only_die = arm.ensures.only_die;
      failed = arm.ensures.fault (ap Err arm.field-0-is);
    }
