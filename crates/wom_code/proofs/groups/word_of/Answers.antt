-- The bits past the last cell are zeros.
use Rattle.std.proofs.Common.{sym, arith}
use Rattle.wom_code.proofs.GroupLemmas.{first_word, row_narrow}
use Rattle.wom_code.proofs.groups.word_of.Goals as goal

pub returns-clause-bits : goal.returns-clause-bits
returns-clause-bits c = λ i h. sym (first_word c.args.row.now i (omega arith))

pub returns-clause-narrow : goal.returns-clause-narrow
returns-clause-narrow c = row_narrow c.args.cells c.args.row.now c.requires.row (c.type_inv.row 0).fits c.requires.few
