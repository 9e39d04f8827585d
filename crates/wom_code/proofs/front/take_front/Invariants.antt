use Rattle.std.proofs.Common.{◌≡◌, ℕ, ◌<◌, ◌/◌}
use Rattle.wom_code.specs.Packed.{word_bit}
use Rattle.wom_code.specs.Turned.{front_bit}
use Rattle.wom_code.proofs.front.take_front.Given as goal

abbrev pub invariant-loop-place : goal.invariant-loop-place
invariant-loop-place l = (i : ℕ) → i / 64 < l.place → word_bit l.out i ≡ front_bit l.turned l.count l.words i
