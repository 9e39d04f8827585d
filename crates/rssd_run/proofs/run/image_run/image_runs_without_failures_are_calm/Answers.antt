-- Nothing is armed at the first view, which has a Spare block, and no line arms anything.
use Rattle.rssd_run.proofs.Calm.{images_calmly}
use Rattle.rssd_run.proofs.run.image_run.image_runs_without_failures_are_calm.Goals as goal

pub returns : goal.returns
returns c = λ head die last lines log after quiet given. images_calmly head die lines log after last quiet given
