-- A step that is passed is of zeros.
use Rattle.std.proofs.Common.{arith, sym, ◌∙◌}
use Rattle.image_audit.proofs.Zeros.{zeros_go}
use Rattle.image_audit.proofs.row.length_without_steps.Goals as goal

pub loop-count-preserved : goal.loop-count-preserved
loop-count-preserved c = record {
  within = omega arith;
  zeros = sym (zeros_go c.args.bytes.now c.loop-count.count 32 (omega arith) (sym c.is_blank.ensures ∙ c.if-is_blank.true)) ∙ c.loop-count.invariant.zeros;
}
