-- By the first word that is not zero.
use Rattle.std.proofs.Common.{arith}
use Rattle.coset_code.proofs.RowLemmas.{with_first, with_second, with_third}
use Rattle.coset_code.proofs.rows.with_row.Goals as goal

pub returns-then-first-ne0 : goal.returns-then-first-ne0
returns-then-first-ne0 c = λ coords old s h. with_first coords old _ _ _ _ c.args.first c.args.second c.args.third s c.with_lowest.ensures h

pub returns-then-second-ne0 : goal.returns-then-second-ne0
returns-then-second-ne0 c = λ coords old s h. with_second coords old _ _ _ _ c.args.first c.args.second c.args.third s (omega arith) c.with_lowest-then-second-ne0.ensures h

pub returns-then-third-ne0 : goal.returns-then-third-ne0
returns-then-third-ne0 c = λ coords old s h. with_third coords old _ _ _ _ c.args.first c.args.second c.args.third s (omega arith) (omega arith) c.with_lowest-then-third-ne0.ensures h
