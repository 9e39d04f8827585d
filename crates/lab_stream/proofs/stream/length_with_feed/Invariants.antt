-- No line feed has come so far.
use Rattle.std.proofs.Common.{take}
use Rattle.rssd_script.specs.Reading.{Lacks}
use Rattle.lab_stream.proofs.stream.length_with_feed.Given as goal

abbrev pub invariant-loop-k : goal.invariant-loop-k
invariant-loop-k l = Lacks 10 (take l.k l.text)
