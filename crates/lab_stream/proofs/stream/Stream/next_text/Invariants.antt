-- What has come of the text so far is the next one, and it has no line feed.
use Rattle.std.proofs.Common.{◌≡◌, ◌+◌, ◌-◌, ◌*◌, ◌≤◌, length}
use Rattle.std.specs.Prelude.{min}
use Rattle.rssd_script.specs.Reading.{Lacks}
use Rattle.lab_stream.specs.Streaming.{TakesText, ahead_of}
use Rattle.lab_stream.proofs.stream.Stream.next_text.Given as goal

abbrev pub invariant-loop-why : goal.invariant-loop-why
invariant-loop-why g l = record {
  takes : TakesText g.S.Source.log l.fn.self l.text.items l.self;
  no_feed : Lacks 10 l.text.items;
  room : length l.text.items ≤ 1049;
  lines : l.self.lines ≡ l.fn.self.lines;
}

-- the room that is left, and whether bytes are ahead
abbrev pub decreases-loop-why : goal.decreases-loop-why
decreases-loop-why g l = 2 * (1049 - length l.text.items) + (1 - min 1 (length (ahead_of l.self)))
