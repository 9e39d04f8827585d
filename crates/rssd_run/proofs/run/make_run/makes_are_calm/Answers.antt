-- Nothing is armed at the first view, and no line of a workload arms anything.
use Rattle.rssd_run.proofs.MadeRuns.{makes_calmly}
use Rattle.rssd_run.proofs.run.make_run.makes_are_calm.Goals as goal

pub returns : goal.returns
returns c = makes_calmly
