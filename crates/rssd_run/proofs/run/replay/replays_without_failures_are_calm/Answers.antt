-- Nothing is armed at the first view, and no line arms anything.
use Rattle.rssd_run.proofs.Calm.{replays_calmly}
use Rattle.rssd_run.proofs.run.replay.replays_without_failures_are_calm.Goals as goal

pub returns : goal.returns
returns c = replays_calmly
