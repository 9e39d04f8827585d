-- The lines so far lead on from the start.
use Rattle.std.proofs.Common.{◌≡◌, ℕ, ◌+◌, ◌≤◌, false, drop}
use Rattle.rssd_core.specs.DeviceValue.{Numbers}
use Rattle.rssd_io.specs.Told.{TellsHeld}
use Rattle.rssd_queue.specs.Waiting.{waits}
use Rattle.rssd_run.specs.Shows.{HasNumbers}
use Rattle.rssd_run.specs.Serves.{IsQueueOf}
use Rattle.rssd_run.specs.QueueActs.{place, ActsSession}
use Rattle.rssd_run.proofs.run.queue_lines.queue_lines.Given as goal

abbrev pub invariant-loop-line : goal.invariant-loop-line
invariant-loop-line g l = record {
  tag : l.tag ≡ l.line-index;
  numbers : (d : Numbers) → HasNumbers d (g.S.Stepping.session l.fn.session).holding → HasNumbers d (g.S.Stepping.session l.session).holding;
  queue_of : IsQueueOf l.queue (g.S.Stepping.session l.session).holding;
  held : TellsHeld (g.O.Sink.written l.fn.out) (g.O.Sink.written l.out) (g.O.Sink.log l.fn.out) (g.O.Sink.log l.out);
  new_tags : (n : ℕ) → l.line-index + 1 ≤ n → waits l.queue.commands n ≡ false;
  acts : (d : Numbers) → HasNumbers d (g.S.Stepping.session l.fn.session).holding
      → ActsSession d (place l.lines 1 l.fn.queue) (g.S.Stepping.session l.fn.session) (place (drop l.line-index l.lines) (l.line-index + 1) l.queue) (g.S.Stepping.session l.session)
      (g.O.Sink.log l.fn.out) (g.O.Sink.log l.out);
}
