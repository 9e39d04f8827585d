-- Cell by cell, from the first on.
use Rattle.wom_code.proofs.TestLemmas.{is_above_iff}
use Rattle.wom_code.proofs.laws.rows_above_keep_each_charge.Goals as goal

pub returns : goal.returns
returns c = is_above_iff
