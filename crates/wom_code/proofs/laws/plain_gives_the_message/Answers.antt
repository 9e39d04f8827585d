-- The test compares the row with those cells.
use Rattle.wom_code.proofs.TestLemmas.{is_same_iff}
use Rattle.std.proofs.Common.{◌++◌, drop}
use Rattle.wom_code.proofs.laws.plain_gives_the_message.Goals as goal

pub returns : goal.returns
returns c = λ k old message new. is_same_iff new (message ++ drop k old)
