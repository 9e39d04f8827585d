-- Each word written has the old bits and the new ones, and past the words of the bits the old stay.
use Rattle.std.proofs.Common.{length, ◌∙◌, arith}
use Rattle.wom_code.proofs.FrontLemmas.{laid_more, laid_all}
use Rattle.wom_code.proofs.PackedLemmas.{set_word_other}
use Rattle.wom_code.proofs.front.lay_front.Goals as goal

pub loop-place-preserved : goal.loop-place-preserved
loop-place-preserved c = record {
  laid =
      laid_more c.args.turned c.args.count c.args.out.now c.args.bits.now c.loop-place.out c.loop-place.place c.front_word.result
      (omega arith) c.front_word.ensures c.loop-place.invariant.rest c.loop-place.invariant.laid;
  rest = λ i h. set_word_other c.loop-place.out c.loop-place.place _ i (omega arith) ∙ c.loop-place.invariant.rest i (omega arith);
}

pub returns-clause-laid : goal.returns-clause-laid
returns-clause-laid c = laid_all c.args.turned c.args.count c.args.out.now c.args.bits.now c.loop-place.out (length c.args.bits.now) (omega arith)
    (λ i h. c.loop-place.invariant.rest i (omega arith)) (λ i h. c.loop-place.invariant.laid i (omega arith))
