-- A queue run begins and ends where nothing waits.
use Rattle.std.proofs.Common.{[], ◌+◌, length, refl}
use Rattle.rssd_run.specs.Heads.{numbers_named}
use Rattle.rssd_run.specs.QueueActs.{place}
use Rattle.rssd_run.specs.QueueRuns.{first_place}
use Rattle.rssd_run.proofs.QueueTimes.{soon}
use Rattle.rssd_run.proofs.run.queue_run.queue_runs_serve_each_soon.Goals as goal

pub returns : goal.returns
returns c = λ head lines log after given.
    soon (numbers_named head) given.acts.acts (first_place head lines) (place [] (length lines + 1) given.queue) given.before given.after refl refl given.acts.run given.none_waits
