-- What is said of a run on an image is a run.
use Rattle.rssd_run.specs.Heads.{numbers_named}
use Rattle.rssd_run.specs.DieRuns.{RunsTo}
use Rattle.rssd_run.proofs.Headline.{runs_keep_headline}
use Rattle.rssd_run.proofs.run.image_run.image_runs_keep_the_headline.Goals as goal

pub returns : goal.returns
returns c = λ head die last lines log after given calm.
    let to : RunsTo (numbers_named head) given.before lines log after last = given.run calm in
    runs_keep_headline (numbers_named head) given.before to.run.events to.after to.run.run
