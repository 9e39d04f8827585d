-- A replay is a run, and its die keeps its shape.
use Rattle.rssd_run.specs.Heads.{numbers_named}
use Rattle.rssd_run.proofs.Headline.{charge_never_falls}
use Rattle.rssd_run.proofs.run.replay.charge_never_falls_in_a_replay.Goals as goal

pub returns : goal.returns
returns c = λ head lines log after given. charge_never_falls (numbers_named head) given.before given.run.events given.after given.run.run
