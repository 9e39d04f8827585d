use Rattle.std.proofs.Common.{take}
use Rattle.image_audit.specs.Live.{Knows}
use Rattle.image_audit.proofs.live.live_records.Given as goal

abbrev pub invariant-loop-mark : goal.invariant-loop-mark
invariant-loop-mark l = Knows (take l.mark-index l.marks) l.live
