-- The lines before this one were given.
use Rattle.std.proofs.Common.{drop, map}
use Rattle.rssd_io.specs.Told.{TellsHeld}
use Rattle.image_audit.specs.Said.{told_of}
use Rattle.rssd_run.specs.AuditRuns.{sector_line, sound_lines}
use Rattle.rssd_run.proofs.GiveImage.{IsGiven}
use Rattle.rssd_run.proofs.run.audit_run.tell.Given as goal

abbrev pub invariant-loop-one : goal.invariant-loop-one
invariant-loop-one g l = record {
  given : IsGiven (g.O.Sink.log l.fn.out) (g.O.Sink.log l.out) (sound_lines (map told_of l.fn.held)) (map sector_line (map told_of (drop l.one-index l.fn.held)));
  held : TellsHeld (g.O.Sink.written l.fn.out) (g.O.Sink.written l.out) (g.O.Sink.log l.fn.out) (g.O.Sink.log l.out);
}
