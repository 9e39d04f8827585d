-- A queue run whose output ends early is a run of the session too.
use Rattle.rssd_run.specs.Heads.{numbers_named}
use Rattle.rssd_run.specs.QueueActs.{steps_of}
use Rattle.rssd_run.specs.QueueRuns.{first_place}
use Rattle.rssd_run.proofs.Headline.{runs_keep_headline}
use Rattle.rssd_run.proofs.QueueActs.{steps_run}
use Rattle.rssd_run.proofs.run.queue_run.cut_off_queue_runs_keep_the_headline.Goals as goal

pub returns : goal.returns
returns c = λ head lines log after given. runs_keep_headline (numbers_named head) given.before (steps_of given.acts.acts) given.after
    (steps_run (numbers_named head) given.acts.acts (first_place head lines) given.acts.to given.before given.after given.acts.run)
