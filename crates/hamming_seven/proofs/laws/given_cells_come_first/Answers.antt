-- Each way on its own.
use Rattle.hamming_seven.proofs.FirstTest.{first_to, first_from}
use Rattle.hamming_seven.proofs.laws.given_cells_come_first.Goals as goal

pub returns : goal.returns
returns c = λ old message new. (first_to old message new, first_from old message new)
