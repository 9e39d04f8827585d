-- The device stands for the first view of a play, and its lines are a play from there.
use Rattle.std.proofs.Common.{◌≤◌, sym, subst}
use Rattle.rssd_core.specs.DeviceValue.{Numbers}
use Rattle.rssd_run.proofs.HeadLimits.{head_fits}
use Rattle.rssd_run.proofs.PlayStart.{IsGivenBlank, plays_from, plays_front_from}
use Rattle.rssd_run.proofs.run.playing.play_with.Goals as goal

pub play_lines-requires-clause-few_bytes : goal.play_lines-requires-clause-few_bytes
play_lines-requires-clause-few_bytes g c =
    subst (λ (d : Numbers). d.geometry.sector_bytes ≤ 512) (sym c.in-Ok.ensures.numbers) (head_fits c.args.head.now c.requires.within).served.few_sector_bytes

pub returns-in-Ok-play_lines-clause-done : goal.returns-in-Ok-play_lines-clause-done
returns-in-Ok-play_lines-clause-done g c =
    let given : IsGivenBlank c.args.head.now (g.D.Die.state c.args.die) = record { within = c.requires.within; shaped = g.met.D.Die.shaped c.args.die; blank = c.requires.blank } in
    plays_from c.args.head.now (g.D.Die.state c.args.die) given (g.F.Device.device c.in-Ok.ftl) c.in-Ok.ensures _ c.args.lines.now (g.O.Sink.log c.args.out.now)
    (g.O.Sink.log c.play_lines.new.out) c.in-Ok-play_lines.ensures.ok

pub returns-clause-front : goal.returns-clause-front
returns-clause-front g c = λ is.
    let given : IsGivenBlank c.args.head.now (g.D.Die.state c.args.die) = record { within = c.requires.within; shaped = g.met.D.Die.shaped c.args.die; blank = c.requires.blank } in
    plays_front_from c.args.head.now (g.D.Die.state c.args.die) given (g.F.Device.device c.in-Ok.ftl) c.in-Ok.ensures _ c.args.lines.now (g.O.Sink.log c.args.out.now)
    (g.O.Sink.log c.play_lines.new.out) c.in-Err.ensures.err
