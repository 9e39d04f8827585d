-- Both halves of the test are the relations.
use Rattle.wom_code.proofs.TestLemmas.{is_carrying_iff}
use Rattle.wom_code.proofs.laws.carrying_rows_decode.Goals as goal

pub returns : goal.returns
returns c = is_carrying_iff
