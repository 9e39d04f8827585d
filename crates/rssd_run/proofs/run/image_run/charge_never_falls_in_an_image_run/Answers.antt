-- What is said of a run on an image is a run, and its die keeps its shape.
use Rattle.rssd_run.specs.Heads.{numbers_named}
use Rattle.rssd_run.specs.DieRuns.{RunsTo}
use Rattle.rssd_run.proofs.Headline.{charge_never_falls}
use Rattle.rssd_run.proofs.run.image_run.charge_never_falls_in_an_image_run.Goals as goal

pub returns : goal.returns
returns c = λ head die last lines log after given calm.
    let to : RunsTo (numbers_named head) given.before lines log after last = given.run calm in
    charge_never_falls (numbers_named head) given.before to.run.events to.after to.run.run
