-- Each word written has its first bits, and past the words there are none.
use Rattle.std.proofs.Common.{arith}
use Rattle.wom_code.proofs.FrontLemmas.{taken_more, taken_row, taken_cells}
use Rattle.wom_code.proofs.front.take_front.Goals as goal

pub loop-place-preserved : goal.loop-place-preserved
loop-place-preserved c = taken_more c.args.turned c.args.count c.args.words.now c.loop-place.out c.loop-place.place c.front_word.result (omega arith) c.front_word.ensures c.loop-place.invariant

pub returns-clause-row : goal.returns-clause-row
returns-clause-row c = taken_row c.args.turned c.args.count c.args.words.now c.loop-place.out (omega arith) (λ i h. c.loop-place.invariant i (omega arith))

pub returns-clause-bits : goal.returns-clause-bits
returns-clause-bits c = taken_cells c.args.turned c.args.count c.args.words.now c.loop-place.out (λ i h. c.loop-place.invariant i (omega arith))
