use Rattle.std.proofs.Common.{◌≡◌, ℕ, ◌+◌, ◌*◌, ◌≤◌, List}
use Rattle.std.specs.Int.{bit_at}
use Rattle.gf2_solve.specs.Family.{Family}
use Rattle.wom_code.specs.Packed.{word_bit}
use Rattle.coset_code.specs.Coordinates.{HasCoordinates}
use Rattle.coset_code.specs.Rows.{AreSound, IsTurned}
use Rattle.coset_code.proofs.turned.gather_word.Given as goal

abbrev pub invariant-loop-left : goal.invariant-loop-left
invariant-loop-left l = record {
  few : l.count ≤ 128;
  bits : (i : ℕ) → bit_at l.left i ≡ 1 → word_bit l.old (64 * l.index + i) ≡ 1;
  rows : (columns coords : List ℕ) (full : Family) → HasCoordinates columns coords full → IsTurned coords full l.table → AreSound coords l.old l.before l.fn.rows
      → AreSound coords l.old l.count l.rows;
}

abbrev pub decreases-loop-left : goal.decreases-loop-left
decreases-loop-left l = l.left
