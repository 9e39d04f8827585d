-- A replay whose output ends early is a run too.
use Rattle.std.proofs.Common.{[], ◌∷◌, ◌++◌}
use Rattle.rssd_run.specs.Heads.{numbers_named}
use Rattle.rssd_run.proofs.Headline.{runs_keep_headline}
use Rattle.rssd_run.proofs.run.replay.cut_off_replays_keep_the_headline.Goals as goal

pub returns : goal.returns
returns c = λ head lines log after given. runs_keep_headline (numbers_named head) given.before (given.run.events ++ given.run.last ∷ []) given.after given.run.run
