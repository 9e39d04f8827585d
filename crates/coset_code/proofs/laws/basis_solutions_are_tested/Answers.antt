-- Cell by cell; past the last column no cell is charged.
use Rattle.coset_code.proofs.SolutionTests.{basis_solution_iff}
use Rattle.coset_code.proofs.laws.basis_solutions_are_tested.Goals as goal

pub returns : goal.returns
returns c = basis_solution_iff
