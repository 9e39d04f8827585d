-- A bit that is new is the lowest of the row.
use Rattle.std.proofs.Common.{arith}
use Rattle.coset_code.proofs.RowLemmas.{lowest_added}
use Rattle.coset_code.proofs.rows.with_lowest.Goals as goal

pub returns : goal.returns
returns c = λ i one none. lowest_added c.args.word c.args.row c.args.odd i c.requires.some (omega arith) c.requires.odd one none
