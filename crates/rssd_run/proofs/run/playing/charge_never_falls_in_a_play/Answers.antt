-- No step lets a charge fall, and so none does over many.
use Rattle.rssd_run.proofs.PlayLaws.{charge_never_falls}
use Rattle.rssd_run.proofs.run.playing.charge_never_falls_in_a_play.Goals as goal

pub returns : goal.returns
returns c = charge_never_falls
