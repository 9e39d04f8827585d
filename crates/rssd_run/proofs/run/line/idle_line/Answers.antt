use Rattle.std.proofs.Common.{ap, Err}
use Rattle.rssd_run.proofs.run.line.idle_line.Goals as goal

pub returns-in-Ok : goal.returns-in-Ok
returns-in-Ok g c = (c.in-Ok.ensures.holds, c.in-Ok.ensures.idled)

pub returns-in-Err-DieFault : goal.returns-in-Err-DieFault
returns-in-Err-DieFault g c = (c.in-Err-DieFault.ensures.holds, c.in-Err-DieFault.ensures.fault (ap Err c.in-Err-DieFault.field-0-is))
