-- What each status says of what was read.
use Rattle.rssd_run.proofs.AuditLaws.{unsound_only, unsound_always}
use Rattle.rssd_run.proofs.run.audit_run.unsound_images_are_told.Goals as goal

pub returns : goal.returns
returns c = record { only = unsound_only; always = unsound_always }
