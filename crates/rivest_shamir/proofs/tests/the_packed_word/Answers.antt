-- The word 1 is a row of three cells and one of two.
use Rattle.std.proofs.Common.{arith}
use Rattle.wom_code.proofs.OneWord.{row_alone}
use Rattle.rivest_shamir.proofs.tests.the_packed_word.Goals as goal

pub over_words-carry-requires-clause-old : goal.over_words-carry-requires-clause-old
over_words-carry-requires-clause-old g c = row_alone 3 1 (omega arith) (omega arith) (omega arith)

pub over_words-carry-requires-clause-message : goal.over_words-carry-requires-clause-message
over_words-carry-requires-clause-message g c = row_alone 2 1 (omega arith) (omega arith) (omega arith)
