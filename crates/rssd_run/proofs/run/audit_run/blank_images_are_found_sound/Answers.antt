-- No header stands in cells with no charge.
use Rattle.rssd_run.proofs.AuditLaws.{blank_found_sound}
use Rattle.rssd_run.proofs.run.audit_run.blank_images_are_found_sound.Goals as goal

pub returns : goal.returns
returns c = blank_found_sound
