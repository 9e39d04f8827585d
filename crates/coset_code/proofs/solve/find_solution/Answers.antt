-- The basis spans the free sums below the cell; what it does not span at the end is none.
use Rattle.std.proofs.Common.{sym, subst, arith}
use Rattle.coset_code.specs.Solution.{HasOffered}
use Rattle.coset_code.proofs.OfferLemmas.{offered_none}
use Rattle.coset_code.proofs.solve.find_solution.Goals as goal

pub loop-cell-init : goal.loop-cell-init
loop-cell-init c = record {
  offered = subst (HasOffered c.args.columns.now _ 0) (sym c.clear.ensures) (offered_none c.args.columns.now _);
  few = omega arith;
}
