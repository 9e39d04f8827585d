use Rattle.std.proofs.Common.{ℕ, List}
use Rattle.coset_code.specs.Rows.{AreSound, AreSeparate}
use Rattle.coset_code.proofs.rows.solve.Given as goal

abbrev pub invariant-loop-step : goal.invariant-loop-step
invariant-loop-step l = (coords old : List ℕ) → AreSound coords old l.count l.rows → AreSeparate coords old l.words.first l.words.second l.words.third
