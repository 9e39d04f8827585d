-- The reader has read what was taken, and that is what the source has no more.
use Rattle.rssd_io.specs.Told.{TellsLeft}
use Rattle.rssd_run.specs.ReadScript.{HasReadSo}
use Rattle.rssd_run.proofs.run.script.feed_all.Given as goal

abbrev pub invariant-loop-room : goal.invariant-loop-room
invariant-loop-room g l = record {
  so : HasReadSo (g.T.Source.log l.fn.script) (g.T.Source.log l.script) l.reader l.room;
  left : TellsLeft (g.T.Source.left l.fn.script) (g.T.Source.left l.script) (g.T.Source.log l.fn.script) (g.T.Source.log l.script);
}

abbrev pub decreases-loop-room : goal.decreases-loop-room
decreases-loop-room g l = l.room
