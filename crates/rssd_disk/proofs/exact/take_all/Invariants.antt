-- the front of the room holds what was taken
use Rattle.std.proofs.Common.{◌-◌, ◌≤◌, length, take}
use Rattle.rssd_disk.specs.Streams.{Takes}
use Rattle.rssd_disk.proofs.exact.take_all.Given as goal

abbrev pub invariant-loop-at : goal.invariant-loop-at
invariant-loop-at g l = record {
  within : l.at ≤ length l.initial.into;
  took : Takes (g.I.Source.log l.fn.from) (g.I.Source.log l.from) (take l.at l.into);
}

abbrev pub decreases-loop-at : goal.decreases-loop-at
decreases-loop-at g l = length l.initial.into - l.at
