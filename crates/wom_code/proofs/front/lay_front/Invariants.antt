use Rattle.std.proofs.Common.{◌≡◌, ℕ, ◌<◌, ◌≤◌, ◌/◌, max}
use Rattle.wom_code.specs.Packed.{word_bit}
use Rattle.wom_code.specs.Turned.{front_bit}
use Rattle.wom_code.proofs.front.lay_front.Given as goal

abbrev pub invariant-loop-place : goal.invariant-loop-place
invariant-loop-place l = record {
  laid : (i : ℕ) → i / 64 < l.place → word_bit l.out i ≡ max (word_bit l.fn.out i) (front_bit l.turned l.count l.bits i);
  rest : (i : ℕ) → l.place ≤ i / 64 → word_bit l.out i ≡ word_bit l.fn.out i;
}
