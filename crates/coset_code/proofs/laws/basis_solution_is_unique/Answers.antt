-- By induction over the cells: the highest cell that differs would be a sum of lower free cells.
use Rattle.std.proofs.Common.{false, length, sym, ◌∙◌, arith}
use Rattle.std.proofs.lemmas.List.{ext_get_or}
use Rattle.coset_code.proofs.SumLemmas.{solution_unique}
use Rattle.coset_code.proofs.laws.basis_solution_is_unique.Goals as goal

pub returns : goal.returns
returns c = λ columns old a b la lb aa ab ua ub e.
    ext_get_or false a b (la ∙ sym lb) (λ i h. solution_unique columns old a b aa ab ua ub (length columns) e i (omega arith))
