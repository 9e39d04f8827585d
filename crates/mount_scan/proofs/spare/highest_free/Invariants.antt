-- The one found so far is the highest-numbered of the blocks so far.
use Rattle.mount_scan.specs.Settled.{IsLastFree}
use Rattle.mount_scan.proofs.spare.highest_free.Given as goal

abbrev pub invariant-loop-block : goal.invariant-loop-block
invariant-loop-block l = IsLastFree l.book l.block l.free
