-- The sum of counts where one of them is raised.
use Rattle.std.proofs.Common.{◌≡◌, ℕ, ◌^◌, ◌<◌, ◌+◌, ◌-◌, List, length, get_or, arith}
use Rattle.std.specs.Prelude.{min}
use Rattle.std.proofs.Math.ListN.{set}
use Rattle.std.proofs.lemmas.List.Sums.{sum_by-set, get_or-le-sum_by}
use Rattle.cell_die.specs.Counts.{sum_of, raised}

pub sum_raised : (counts : List ℕ) (place : ℕ) → place < length counts → get_or counts place 0 < 2 ^ 64
    → sum_of (set counts place (raised (get_or counts place 0))) ≡ min (sum_of counts + 1) (2 ^ 64 - 1)
sum_raised counts place inside small =
    let sums = sum_by-set (λ (n : ℕ). n) counts place (raised (get_or counts place 0)) 0 inside in
    let within = get_or-le-sum_by (λ (n : ℕ). n) counts place 0 inside in
    omega (arith, sums, within)
