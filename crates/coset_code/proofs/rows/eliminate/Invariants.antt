use Rattle.std.proofs.Common.{ℕ, List}
use Rattle.coset_code.specs.Rows.{AreSound}
use Rattle.coset_code.proofs.rows.eliminate.Given as goal

abbrev pub invariant-loop-half : goal.invariant-loop-half
invariant-loop-half l = (coords old : List ℕ) → AreSound coords old l.count l.fn.rows → AreSound coords old l.count l.rows
