use Rattle.std.proofs.Common.{◌≡◌, drop}
use Rattle.image_audit.specs.Marks.{first_high}
use Rattle.image_audit.proofs.high.first_high.Given as goal

abbrev pub invariant-loop-mark : goal.invariant-loop-mark
invariant-loop-mark l = first_high l.marks ≡ first_high (drop l.mark-index l.marks)
