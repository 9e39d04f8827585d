use Rattle.std.proofs.Common.{◌≡◌, ℕ, ◌<◌, get_or}
use Rattle.std.specs.Int.{bit_at}
use Rattle.wom_code.specs.Packed.{word_bit}
use Rattle.coset_code.proofs.coordinates.charged_places.Given as goal

abbrev pub invariant-loop-place : goal.invariant-loop-place
invariant-loop-place l = (p : ℕ) → p < l.place → bit_at l.places p ≡ 0 → word_bit l.old (get_or l.full.tags p 0) ≡ 0
