-- What is written is the row of the bytes that it fills up.
use Rattle.std.proofs.Common.{ap, Err}
use Rattle.rssd_core.specs.DeviceValue.{DeviceValue}
use Rattle.rssd_run.proofs.Answered.{answered_wrote}
use Rattle.rssd_run.proofs.Errors.{spent_no_fault}
use Rattle.rssd_run.proofs.run.line.write_row.Goals as goal

pub returns-in-Ok : goal.returns-in-Ok
returns-in-Ok g c = λ bytes fits row.
    let old : DeviceValue = g.F.Device.device c.args.ftl.now in
    let new : DeviceValue = g.F.Device.device c.write.new.self in
    let wrote = rw row at c.in-Ok.ensures.wrote in
    rw c.placed_reply.ensures
    (answered_wrote old.numbers c.args.sector bytes c.in-Ok.placed old new (record { in_range = c.requires.in_range; fits = fits; holds = c.in-Ok.ensures.holds; wrote = wrote }))

pub returns-in-Err-DieFault : goal.returns-in-Err-DieFault
returns-in-Err-DieFault g c = λ bytes fits row.
    let failed = rw row at (c.in-Err-DieFault.ensures.fault (ap Err c.in-Err-DieFault.field-0-is)) in
    record { in_range = c.requires.in_range; fits = fits; holds = c.in-Err-DieFault.ensures.holds; fault = failed }

pub returns-in-Err-Spent : goal.returns-in-Err-Spent
returns-in-Err-Spent g c = λ bytes fits row.
    let facts = c.in-Err-Spent.ensures.spent.0 (ap Err c.in-Err-Spent.field-0-is) in
    (c.requires.in_range, fits, facts.2, c.in-Err-Spent.ensures.refused (spent_no_fault c.in-Err-Spent.field-0 c.in-Err-Spent.field-0-is))
