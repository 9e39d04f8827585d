-- Bit by bit from the lowest up.
use Rattle.std.proofs.Common.{ℕ, ◌+◌, ◌*◌, get_or, ap, ◌∙◌, arith}
use Rattle.std.specs.Int.{bit_at}
use Rattle.std.proofs.lemmas.Nat.Bits.{shr_and_one, bit_at-lt}
use Rattle.coset_code.proofs.TurnLemmas.{bits_none, bits_more}
use Rattle.coset_code.proofs.turned.turn_word.Goals as goal

pub loop-i-init : goal.loop-i-init
loop-i-init c = bits_none _

pub loop-i-preserved : goal.loop-i-preserved
loop-i-preserved c =
    let bit : ℕ → ℕ = λ k. bit_at (get_or c.args.coords.now (64 * c.args.index + k) 0) c.args.place in
    bits_more bit c.loop-i.word c.loop-i.i _ c.loop-i.invariant (omega arith)
    (omega (arith, shr_and_one c.column_at.result c.args.place, bit_at-lt c.column_at.result c.args.place))
    (shr_and_one c.column_at.result c.args.place ∙ ap (λ x. bit_at x c.args.place) c.column_at.ensures)

pub returns : goal.returns
returns c = λ i h. c.loop-i.invariant.bits i (omega arith)
