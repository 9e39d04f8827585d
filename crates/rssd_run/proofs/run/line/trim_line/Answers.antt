use Rattle.std.proofs.Common.{ap, Err}
use Rattle.rssd_core.specs.DeviceValue.{DeviceValue}
use Rattle.rssd_run.proofs.Errors.{spent_no_fault, range_no_fault, ok_in_range, fault_in_range}
use Rattle.rssd_run.proofs.run.line.trim_line.Goals as goal

pub returns-in-Ok : goal.returns-in-Ok
returns-in-Ok g c =
    let old : DeviceValue = g.F.Device.device c.args.ftl.now in
    record { in_range = ok_in_range c.in-Ok.field-0 c.args.sector old.numbers.geometry.sectors c.in-Ok.ensures.bad_sector.1; holds = c.in-Ok.ensures.holds; trimmed = c.in-Ok.ensures.trimmed }

pub returns-in-Err-DieFault : goal.returns-in-Err-DieFault
returns-in-Err-DieFault g c =
    let old : DeviceValue = g.F.Device.device c.args.ftl.now in
    let arm = c.in-Err-DieFault in
    record {
      in_range = fault_in_range arm.field-0 c.args.sector old.numbers.geometry.sectors arm.field-0-is arm.ensures.bad_sector.1;
      holds = arm.ensures.holds;
      fault = arm.ensures.fault (ap Err arm.field-0-is);
    }

pub returns-in-Err-BadSector : goal.returns-in-Err-BadSector
returns-in-Err-BadSector g c = (
  c.in-Err-BadSector.ensures.bad_sector.0 (ap Err c.in-Err-BadSector.field-0-is),
  c.in-Err-BadSector.ensures.refused (range_no_fault c.in-Err-BadSector.field-0 c.in-Err-BadSector.field-0-is),
)

pub returns-in-Err-Spent : goal.returns-in-Err-Spent
returns-in-Err-Spent g c =
    let facts = c.in-Err-Spent.ensures.spent.0 (ap Err c.in-Err-Spent.field-0-is) in
    (facts.0, facts.2, c.in-Err-Spent.ensures.refused (spent_no_fault c.in-Err-Spent.field-0 c.in-Err-Spent.field-0-is))
