use Rattle.std.proofs.Common.{take}
use Rattle.rssd_core.specs.DeviceValue.{Numbers}
use Rattle.rssd_io.specs.Told.{TellsHeld}
use Rattle.rssd_run.specs.View.{View}
use Rattle.rssd_run.specs.Run.{RunOf, CalmFor}
use Rattle.rssd_run.specs.Exchanges.{AnswersAll}
use Rattle.rssd_run.specs.Shows.{HasNumbers, Shows, KeepsSession}
use Rattle.rssd_run.proofs.run.run_lines.Given as goal

abbrev pub invariant-loop-line : goal.invariant-loop-line
invariant-loop-line g l = record {
  numbers : (d : Numbers) → HasNumbers d (g.S.Stepping.session l.fn.session).holding → HasNumbers d (g.S.Stepping.session l.session).holding;
  runs : (d : Numbers) → HasNumbers d (g.S.Stepping.session l.fn.session).holding → (before : View) → Shows d (g.S.Stepping.session l.fn.session) before → CalmFor d before.device.die l.lines
      → (now : View) × Shows d (g.S.Stepping.session l.session) now × CalmFor d now.device.die l.lines
      × RunOf d before (take l.line-index l.lines) now (g.O.Sink.log l.fn.out) (g.O.Sink.log l.out);
  answered : (d : Numbers) → HasNumbers d (g.S.Stepping.session l.fn.session).holding
      → AnswersAll d (g.S.Stepping.session l.fn.session) (take l.line-index l.lines) (g.S.Stepping.session l.session) (g.O.Sink.log l.fn.out) (g.O.Sink.log l.out);
  held : TellsHeld (g.O.Sink.written l.fn.out) (g.O.Sink.written l.out) (g.O.Sink.log l.fn.out) (g.O.Sink.log l.out);
  keeps : (d : Numbers) → HasNumbers d (g.S.Stepping.session l.fn.session).holding → KeepsSession d (g.S.Stepping.session l.fn.session) (g.S.Stepping.session l.session);
}
