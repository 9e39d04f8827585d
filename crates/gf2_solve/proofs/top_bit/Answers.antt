-- The leading zeros and the highest bit make up the width.
use Rattle.std.proofs.Common.{◌≡◌, ℕ, suc, ◌+◌, ◌-◌, ◌^◌, ◌<◌, ◌≤◌, subst, arith}
use Rattle.std.specs.Int.Count.{count_leading_zeros}
use Rattle.std.proofs.lemmas.Nat.{leading_top}
use Rattle.gf2_solve.proofs.top_bit.Goals as goal

-- the place that the count of leading zeros gives
place : (v : ℕ) → 0 < v → v < 2 ^ 128 → (2 ^ (127 - count_leading_zeros 128 v) ≤ v) × (v < 2 ^ (127 - count_leading_zeros 128 v + 1))
place v h i =
    let t = leading_top 128 v h i in
    let e : t.0 ≡ 127 - count_leading_zeros 128 v = omega arith in
    let f : suc t.0 ≡ 127 - count_leading_zeros 128 v + 1 = omega arith in
    (subst (λ p. 2 ^ p ≤ v) e t.2, subst (λ p. v < 2 ^ p) f t.3)

pub returns-clause-set : goal.returns-clause-set
returns-clause-set c = (place c.args.vector c.requires c.ranges.vector.fits).0

pub returns-clause-highest : goal.returns-clause-highest
returns-clause-highest c = (place c.args.vector c.requires c.ranges.vector.fits).1
