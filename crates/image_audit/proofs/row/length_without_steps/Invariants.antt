use Rattle.std.proofs.Common.{◌≡◌, ◌≤◌, length, take}
use Rattle.image_audit.specs.Held.{without_zeros}
use Rattle.image_audit.proofs.row.length_without_steps.Given as goal

abbrev pub invariant-loop-count : goal.invariant-loop-count
invariant-loop-count l = record {
  within : l.count ≤ length l.bytes;
  zeros : without_zeros (take l.count l.bytes) ≡ without_zeros l.bytes;
}

abbrev pub decreases-loop-count : goal.decreases-loop-count
decreases-loop-count l = l.count
