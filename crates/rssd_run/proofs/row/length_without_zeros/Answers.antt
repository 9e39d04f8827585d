-- What is passed from the end are zeros, and the byte before them is none.
use Rattle.std.proofs.Common.{arith, sym, ◌∙◌}
use Rattle.rssd_run.proofs.Zeros.{zeros_alone}
use Rattle.image_audit.proofs.Zeros.{zeros_step, zeros_end, trimmed}
use Rattle.rssd_run.proofs.row.length_without_zeros.Goals as goal

pub returns-then-is_blank-clause-bytes : goal.returns-then-is_blank-clause-bytes
returns-then-is_blank-clause-bytes c = sym (zeros_alone c.args.bytes.now (sym c.is_blank.ensures ∙ c.if-is_blank.true))

pub returns-then-is_blank-clause-trimmed : goal.returns-then-is_blank-clause-trimmed
returns-then-is_blank-clause-trimmed c = trimmed c.args.bytes.now

pub loop-count-preserved : goal.loop-count-preserved
loop-count-preserved c = record {
  within = omega arith;
  zeros = sym (zeros_step c.args.bytes.now c.loop-count.count (omega arith) (omega arith) c.if-bytes-count-eq0.true) ∙ c.loop-count.invariant.zeros;
}

pub returns-else-bytes-count-eq0-clause-bytes : goal.returns-else-bytes-count-eq0-clause-bytes
returns-else-bytes-count-eq0-clause-bytes c =
    zeros_end c.args.bytes.now c.loop-count.count c.loop-count.invariant.within (λ some. c.if-bytes-count-eq0.false) ∙ c.loop-count.invariant.zeros

pub returns-else-bytes-count-eq0-clause-trimmed : goal.returns-else-bytes-count-eq0-clause-trimmed
returns-else-bytes-count-eq0-clause-trimmed c = trimmed c.args.bytes.now
