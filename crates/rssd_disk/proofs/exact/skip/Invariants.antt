-- what is left, and what was taken, are all
use Rattle.std.proofs.Common.{◌-◌, ◌≤◌}
use Rattle.rssd_disk.specs.Streams.{Skips}
use Rattle.rssd_disk.proofs.exact.skip.Given as goal

abbrev pub invariant-loop-left : goal.invariant-loop-left
invariant-loop-left g l = record {
  within : l.left ≤ l.count;
  skips : Skips (l.count - l.left) (g.I.Source.log l.fn.from) (g.I.Source.log l.from);
}

abbrev pub decreases-loop-left : goal.decreases-loop-left
decreases-loop-left g l = l.left
