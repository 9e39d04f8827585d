use Rattle.std.proofs.Common.{◌≡◌, ℕ, ◌<◌, ◌≤◌, ◌^◌, [], length, get_or}
use Rattle.gf2_solve.specs.Span.{subset_sum}
use Rattle.coset_code.specs.Solution.{HasOffered}
use Rattle.coset_code.proofs.coordinates.take_coordinates.Given as goal

abbrev pub invariant-loop-cell : goal.invariant-loop-cell
invariant-loop-cell l = record {
  offered : HasOffered l.columns [] l.cell l.full;
  counted : l.rank ≡ length l.full.columns;
  few : l.rank ≤ l.cell;
}

abbrev pub invariant-loop-place : goal.invariant-loop-place
invariant-loop-place l = record {
  sums : (k : ℕ) → k < l.place → subset_sum (get_or l.coords k 0) l.full.columns ≡ get_or l.columns k 0;
  within : (k : ℕ) → k < l.place → get_or l.coords k 0 < 2 ^ length l.full.columns;
}
