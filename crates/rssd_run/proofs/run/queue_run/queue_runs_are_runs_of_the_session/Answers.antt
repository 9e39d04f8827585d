-- Each act that is carried out is a step.
use Rattle.std.proofs.Common.{[], ◌+◌, length}
use Rattle.rssd_run.specs.Heads.{numbers_named}
use Rattle.rssd_run.specs.QueueActs.{place}
use Rattle.rssd_run.specs.QueueRuns.{first_place}
use Rattle.rssd_run.proofs.QueueActs.{steps_run}
use Rattle.rssd_run.proofs.run.queue_run.queue_runs_are_runs_of_the_session.Goals as goal

pub returns : goal.returns
returns c = λ head lines log after given.
    steps_run (numbers_named head) given.acts.acts (first_place head lines) (place [] (length lines + 1) given.queue) given.before given.after given.acts.run
