-- The lines so far were played, as many as the loop has gone round, and the log has grown.
use Rattle.std.proofs.Common.{◌≡◌, List, length}
use Rattle.rssd_io.specs.Event.{Grows}
use Rattle.rssd_lab.specs.Runs.{Answered, PlaysLines, state_at}
use Rattle.rssd_lab.proofs.laboratory.play_all.Given as goal

abbrev pub invariant-loop : goal.invariant-loop
invariant-loop g l = record {
  numbers : (g.F.Device.device l.ftl).numbers ≡ (g.F.Device.device l.fn.ftl).numbers;
  grew : Grows (g.O.Sink.log l.fn.out) (g.O.Sink.log l.out);
  plays : (answered : List Answered) × (length answered ≡ l.counter)
      × PlaysLines g.L.Lines.gives (g.F.Device.device l.fn.ftl).numbers l.telling
      (state_at l.fn.lines (g.F.Device.device l.fn.ftl) l.fn.score (g.O.Sink.log l.fn.out))
      answered (state_at l.lines (g.F.Device.device l.ftl) l.score (g.O.Sink.log l.out));
}
