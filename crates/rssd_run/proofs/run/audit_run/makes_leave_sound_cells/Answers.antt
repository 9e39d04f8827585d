-- The cells of a blank die are sound, and each line keeps them so.
use Rattle.rssd_run.specs.Heads.{numbers_named}
use Rattle.rssd_run.proofs.AuditLaws.{run_sound}
use Rattle.rssd_run.proofs.run.audit_run.makes_leave_sound_cells.Goals as goal

pub returns : goal.returns
returns c = λ head seed count made. run_sound (numbers_named head) made.before made.run.events made.after made.run.run made.start.sound
