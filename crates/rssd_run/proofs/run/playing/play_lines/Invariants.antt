use Rattle.std.proofs.Common.{◌≡◌, take}
use Rattle.rssd_io.specs.Told.{TellsHeld}
use Rattle.rssd_run.specs.Held.{Tallies}
use Rattle.rssd_run.specs.View.{View}
use Rattle.rssd_run.specs.PlayRuns.{LeavesDie, PlayOf}
use Rattle.rssd_run.proofs.Plays.{Stands}
use Rattle.rssd_run.proofs.run.playing.play_lines.Given as goal

abbrev pub invariant-loop-line : goal.invariant-loop-line
invariant-loop-line g l = record {
  numbers : (g.F.Device.device l.ftl).numbers ≡ (g.F.Device.device l.fn.ftl).numbers;
  held : TellsHeld (g.O.Sink.written l.fn.out) (g.O.Sink.written l.out) (g.O.Sink.log l.fn.out) (g.O.Sink.log l.out);
  plays : (base : Tallies) (before : View) → Stands (g.F.Device.device l.fn.ftl).numbers base (g.F.Device.device l.fn.ftl) before
      → (now : View) × Stands (g.F.Device.device l.fn.ftl).numbers base (g.F.Device.device l.ftl) now
      × PlayOf (LeavesDie g.D.Die.state) (g.F.Device.device l.fn.ftl).numbers before (take l.line-index l.lines) now (g.O.Sink.log l.fn.out) (g.O.Sink.log l.out);
}
