-- It begins where nothing waits.
use Rattle.std.proofs.Common.{refl}
use Rattle.rssd_run.specs.Heads.{numbers_named}
use Rattle.rssd_run.specs.QueueRuns.{first_place}
use Rattle.rssd_run.proofs.QueueTimes.{soon_where_served}
use Rattle.rssd_run.proofs.run.queue_run.cut_off_queue_runs_serve_each_soon.Goals as goal

pub returns : goal.returns
returns c = λ head lines log after given.
    soon_where_served (numbers_named head) given.acts.acts (first_place head lines) given.acts.to given.before given.after refl refl given.acts.run
