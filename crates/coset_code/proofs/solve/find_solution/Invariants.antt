use Rattle.std.proofs.Common.{length, ◌≤◌}
use Rattle.wom_code.specs.Packed.{cells_of}
use Rattle.coset_code.specs.Solution.{HasOffered}
use Rattle.coset_code.proofs.solve.find_solution.Given as goal

abbrev pub invariant-loop-cell : goal.invariant-loop-cell
invariant-loop-cell l = record {
  offered : HasOffered l.columns (cells_of (length l.columns) l.old) l.cell l.basis;
  few : l.taken ≤ l.cell;
}
