-- By induction over the cells.
use Rattle.coset_code.proofs.SolutionTests.{free_sum_iff}
use Rattle.coset_code.proofs.laws.free_sums_are_tested.Goals as goal

pub returns : goal.returns
returns c = free_sum_iff
