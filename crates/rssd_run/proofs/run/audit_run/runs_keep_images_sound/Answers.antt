-- Sound cells stay sound, whatever the lines.
use Rattle.rssd_run.proofs.AuditLaws.{left_sound}
use Rattle.rssd_run.proofs.run.audit_run.runs_keep_images_sound.Goals as goal

pub returns : goal.returns
returns c = left_sound
