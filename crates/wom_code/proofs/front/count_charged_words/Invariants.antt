use Rattle.std.proofs.Common.{◌≡◌, ◌*◌}
use Rattle.wom_code.specs.Packed.{word_bit}
use Rattle.wom_code.proofs.CountLemmas.{digit_sum}
use Rattle.wom_code.proofs.front.count_charged_words.Given as goal

abbrev pub invariant-loop-place : goal.invariant-loop-place
invariant-loop-place l = l.charged ≡ digit_sum (64 * l.place) (word_bit l.words)
