-- A run that stopped stopped on the device that was mounted, and one that came to its end left the die that comes back.
use Rattle.std.proofs.Common.{◌≤◌, sym, ◌∙◌, ap, subst}
use Rattle.rssd_core.specs.DeviceValue.{Numbers, DeviceValue}
use Rattle.rssd_core.specs.Mount.{Mounts}
use Rattle.rssd_run.specs.Heads.{numbers_named}
use Rattle.rssd_run.proofs.HeadLimits.{head_fits}
use Rattle.rssd_lab.proofs.Stopped.{started_stops}
use Rattle.rssd_lab.proofs.on_die.run_with.Goals as goal

pub returns-in-Ok-clause-done : goal.returns-in-Ok-clause-done
returns-in-Ok-clause-done g c =
    let state = g.D.Die.state in
    let runs = c.in-Ok.ensures.done in
    (g.F.Device.device c.in_ok-ftl.ftl, c.in_ok-ftl.ensures.mounted, runs.0, ap state c.into_parts-die.ensures.inner ∙ c.close-counting.ensures.die ∙ ap (λ (d : DeviceValue). d.view.die) (sym runs.1))

pub returns-in-Err-clause-stops : goal.returns-in-Err-clause-stops
returns-in-Err-clause-stops g c =
    started_stops g.L.Lines.gives g.L.Lines.ended g.L.Lines.stops c.args.telling (g.F.Device.device c.in_ok-ftl.ftl)
    (Mounts (numbers_named c.args.ready.head) (g.D.Die.state c.args.ready.die)) c.in_ok-ftl.ensures.mounted
    c.args.lines.now c.run.new.lines (g.O.Sink.log c.args.out.now) (g.O.Sink.log c.run.new.out) c.in-Err.why c.in-Err.ensures.stops

pub run-requires : goal.run-requires
run-requires g c =
    let fits = head_fits c.args.ready.head c.args.ready.within in
    subst (λ (d : Numbers). d.geometry.sector_bytes ≤ 512) (sym c.in_ok-ftl.ensures.mounted.numbers) fits.served.few_sector_bytes
