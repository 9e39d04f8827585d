-- Pair by pair the cells are equal.
use Rattle.wom_code.proofs.TestLemmas.{is_same_iff}
use Rattle.wom_code.proofs.laws.same_rows_are_one.Goals as goal

pub returns : goal.returns
returns c = is_same_iff
