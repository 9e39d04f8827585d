-- From the last row to the first.
use Rattle.std.proofs.Common.{arith}
use Rattle.coset_code.proofs.RowLemmas.{separate_none}
use Rattle.coset_code.proofs.rows.solve.Goals as goal

pub loop-step-init : goal.loop-step-init
loop-step-init c = λ coords old s. separate_none coords old

pub loop-step-preserved : goal.loop-step-preserved
loop-step-preserved c = λ coords old s. c.with_row-words.ensures coords old (s _ (omega arith)) (c.loop-step.invariant coords old s)
