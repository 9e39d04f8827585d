-- A replay is a run.
use Rattle.rssd_run.specs.Heads.{numbers_named}
use Rattle.rssd_run.proofs.Headline.{runs_keep_headline}
use Rattle.rssd_run.proofs.run.replay.replays_keep_the_headline.Goals as goal

pub returns : goal.returns
returns c = λ head lines log after given. runs_keep_headline (numbers_named head) given.before given.run.events given.after given.run.run
