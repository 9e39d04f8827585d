use Rattle.std.proofs.Common.{◌≡◌, ℕ, ◌<◌, ◌^◌, get_or}
use Rattle.gf2_solve.specs.Span.{subset_sum}
use Rattle.coset_code.proofs.turned.express_bits.Given as goal

abbrev pub invariant-loop-place : goal.invariant-loop-place
invariant-loop-place l = (b : ℕ) → b < l.place → subset_sum (get_or l.units b 0) l.full.columns ≡ 2 ^ b
