-- The die of an image comes back as the lines leave it.
use Rattle.std.proofs.Common.{◌≡◌, Some, refl, sym, subst}
use Rattle.cell_die.specs.DieState.{DieState}
use Rattle.mem_die.specs.MemState.{mem_state}
use Rattle.rssd_core.specs.Mount.{Mounts}
use Rattle.rssd_run.specs.Heads.{numbers_named}
use Rattle.rssd_lab.specs.declared.stage.Stage.{Stage}
use Rattle.rssd_lab.specs.declared.stage.Stage.TheVariants.{Image}
use Rattle.rssd_lab.specs.Stages.{StartOn, EndOn}
use Rattle.rssd_lab.specs.Started.{RunsFrom}
use Rattle.rssd_lab.proofs.Stopped.{runs_so}
use Rattle.rssd_lab.proofs.stage.run_stage.Goals as goal

pub returns-in_ok-left-in-Image-clause-done : goal.returns-in_ok-left-in-Image-clause-done
returns-in_ok-left-in-Image-clause-done g c =
    let ready = c.in-Image.ready in
    let left = c.in_ok-left-in-Image.left in
    let start = Mounts (numbers_named ready.head) (mem_state ready.die) in
    let is : Image ready ≡ c.args.stage = sym c.in-Image.is in
    subst (λ (stage : Stage). RunsFrom g.L.Lines.gives g.L.Lines.ended c.args.telling (StartOn stage) (EndOn stage (Some left))
    c.args.lines.now c.run_on.new.lines (g.O.Sink.log c.args.out.now) (g.O.Sink.log c.run_on.new.out)) is
    (runs_so g.L.Lines.gives g.L.Lines.ended c.args.telling start start (λ device mounts. mounts)
    c.args.lines.now c.run_on.new.lines (g.O.Sink.log c.args.out.now) (g.O.Sink.log c.run_on.new.out)
    (λ (die : DieState). mem_state left ≡ die) (EndOn (Image ready) (Some left)) (λ die same. (left, refl, same)) c.in_ok-left-in-Image.ensures.done)
