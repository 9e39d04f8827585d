use Rattle.std.proofs.Common.{◌+◌, ◌*◌, get_or}
use Rattle.std.specs.Int.{bit_at}
use Rattle.coset_code.proofs.TurnLemmas.{HasBitsBelow}
use Rattle.coset_code.proofs.turned.turn_word.Given as goal

abbrev pub invariant-loop-i : goal.invariant-loop-i
invariant-loop-i l = HasBitsBelow (λ k. bit_at (get_or l.coords (64 * l.index + k) 0) l.place) l.word l.i
