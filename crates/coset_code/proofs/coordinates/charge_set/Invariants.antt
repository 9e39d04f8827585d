use Rattle.std.proofs.Common.{◌≡◌, ℕ, List, length, ◌<◌, ◌≤◌, ◌^◌, get_or}
use Rattle.wom_code.specs.Packed.{cells_of, word_bit}
use Rattle.coset_code.specs.Coordinates.{IsFreeSet, IsChargedSet}
use Rattle.coset_code.proofs.coordinates.charge_set.Given as goal

abbrev pub invariant-loop-rest : goal.invariant-loop-rest
invariant-loop-rest l = record {
  charged : (columns : List ℕ) → IsFreeSet columns (cells_of (length columns) l.initial.row) l.basis l.set →
      IsChargedSet columns (cells_of (length columns) l.initial.row) (cells_of (length columns) l.row) l.basis l.set l.rest;
  others : (n : ℕ) → ((p : ℕ) → p < length l.basis.columns → get_or l.basis.tags p 0 < n) → (i : ℕ) → n ≤ i → word_bit l.row i ≡ word_bit l.initial.row i;
  within : l.rest < 2 ^ length l.basis.columns;
}

abbrev pub decreases-loop-rest : goal.decreases-loop-rest
decreases-loop-rest l = l.rest
