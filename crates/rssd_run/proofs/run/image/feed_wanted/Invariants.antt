-- The reader was fed what was taken, and no more than it wanted.
use Rattle.std.proofs.Common.{◌≡◌, ◌-◌, min, length}
use Rattle.die_image.specs.Image.{wanted}
use Rattle.rssd_io.specs.Told.{TellsLeft}
use Rattle.rssd_run.specs.ReadImage.{IsFed}
use Rattle.rssd_run.proofs.run.image.feed_wanted.Given as goal

abbrev pub invariant-loop-room : goal.invariant-loop-room
invariant-loop-room g l = record {
  fed : IsFed (g.I.Source.log l.fn.image) (g.I.Source.log l.image) l.fn.reader l.reader;
  left : TellsLeft (g.I.Source.left l.fn.image) (g.I.Source.left l.image) (g.I.Source.log l.fn.image) (g.I.Source.log l.image);
  room : l.room ≡ min (wanted l.reader) 32_768;
}

-- no reader is fed more than the longest image and a byte
abbrev pub decreases-loop-room : goal.decreases-loop-room
decreases-loop-room g l = 67_108_897 - length l.reader.bytes
