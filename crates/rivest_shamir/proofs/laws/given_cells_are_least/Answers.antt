-- Each way on its own.
use Rattle.rivest_shamir.proofs.GivenTests.{least_to, least_from}
use Rattle.rivest_shamir.proofs.laws.given_cells_are_least.Goals as goal

pub returns : goal.returns
returns c = λ old message new. (least_to old message new, least_from old message new)
