use Rattle.std.proofs.Common.{◌≡◌, ℕ, ◌<◌, get_or, bit_and}
use Rattle.coset_code.proofs.coordinates.mask_all.Given as goal

abbrev pub invariant-loop-cell : goal.invariant-loop-cell
invariant-loop-cell l = (k : ℕ) → k < l.cell → get_or l.masked k 0 ≡ bit_and (get_or l.coords k 0) l.mask
