-- What was served leads on from the start.
use Rattle.std.proofs.Common.{ℕ, List, length}
use Rattle.rssd_core.specs.DeviceValue.{Numbers}
use Rattle.rssd_io.specs.Told.{TellsHeld}
use Rattle.rssd_script.specs.declared.lines.Line.{Line}
use Rattle.rssd_run.specs.Shows.{HasNumbers}
use Rattle.rssd_run.specs.Serves.{IsQueueOf}
use Rattle.rssd_run.specs.QueueActs.{place, IsServeAllDue, ActsSession}
use Rattle.rssd_run.proofs.run.queue_lines.serve_all.Given as goal

abbrev pub invariant-loop : goal.invariant-loop
invariant-loop g l = record {
  numbers : (d : Numbers) → HasNumbers d (g.S.Stepping.session l.fn.session).holding → HasNumbers d (g.S.Stepping.session l.session).holding;
  queue_of : IsQueueOf l.queue (g.S.Stepping.session l.session).holding;
  held : TellsHeld (g.O.Sink.written l.fn.out) (g.O.Sink.written l.out) (g.O.Sink.log l.fn.out) (g.O.Sink.log l.out);
  acts : (d : Numbers) → HasNumbers d (g.S.Stepping.session l.fn.session).holding → (lines : List Line) (tag : ℕ) → IsServeAllDue lines
      → ActsSession d (place lines tag l.fn.queue) (g.S.Stepping.session l.fn.session) (place lines tag l.queue) (g.S.Stepping.session l.session) (g.O.Sink.log l.fn.out) (g.O.Sink.log l.out);
}

abbrev pub decreases-loop : goal.decreases-loop
decreases-loop g l = length l.queue.commands
