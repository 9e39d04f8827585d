use Rattle.cell_die.specs.DieState.{DieState}
use Rattle.rssd_core.specs.Mount.{numbers_of}
use Rattle.rssd_run.proofs.MountSteps.{mounts_done, mount_refused, shape_is}
use Rattle.rssd_run.proofs.run.line.mount_again.Goals as goal

pub returns-in-Ok-clause-done : goal.returns-in-Ok-clause-done
returns-in-Ok-clause-done g c =
    let die : DieState = g.D.Die.state c.args.die in
    let m = rw c.power_on.ensures at c.in-Ok.ensures.mounted in
    mounts_done (numbers_of die.shape (g.C.Scheme.meaning c.args.scheme) c.args.plan) die (g.F.Device.device c.in-Ok.ftl)
    (shape_is die.shape (g.C.Scheme.meaning c.args.scheme) c.args.plan c.requires.fits) m c.requires.tells

pub returns-in-Err-clause-refused : goal.returns-in-Err-clause-refused
returns-in-Err-clause-refused g c =
    let die : DieState = g.D.Die.state c.args.die in
    let r = rw c.power_on.ensures at c.in-Err.ensures.refused in
    let shape = rw c.power_on.ensures at c.in-Err.ensures.shape in
    mount_refused (numbers_of die.shape (g.C.Scheme.meaning c.args.scheme) c.args.plan) die (g.D.Die.state c.in-Err.refused.die) c.in-Err.refused.why
    (λ why. shape.0 why c.requires.fits) r c.requires.tells

pub returns-in-Ok-clause-mounts : goal.returns-in-Ok-clause-mounts
returns-in-Ok-clause-mounts g c = rw c.power_on.ensures at c.in-Ok.ensures.mounted

pub returns-in-Err-clause-refuses : goal.returns-in-Err-clause-refuses
returns-in-Err-clause-refuses g c = rw c.power_on.ensures at c.in-Err.ensures.refused
