use Rattle.std.proofs.Common.{ℕ, List}
use Rattle.coset_code.specs.Rows.{AreSound}
use Rattle.coset_code.proofs.rows.add_two_by_second.Given as goal

abbrev pub invariant-loop-other : goal.invariant-loop-other
invariant-loop-other l = (coords old : List ℕ) → AreSound coords old l.count l.fn.rows → AreSound coords old l.count l.rows
