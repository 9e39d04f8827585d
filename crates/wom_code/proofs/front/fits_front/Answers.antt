-- A word that does not hold the old bits has a cell that is not above; else each word has none.
use Rattle.std.proofs.Common.{sym, refl, arith}
use Rattle.std.proofs.lemmas.Bool.{true≢false}
use Rattle.wom_code.proofs.FrontLemmas.{word_over, within_more, above_from_bits}
use Rattle.wom_code.proofs.front.fits_front.Goals as goal

pub returns-then-kept-word : goal.returns-then-kept-word
returns-then-kept-word c = (
  λ yes. absurd (true≢false (sym yes)),
  λ above. absurd (word_over c.args.turned c.args.count c.args.old.now c.args.bits.now c.loop-place.place c.front_word-kept.result c.front_word-word.result
      c.front_word-kept.type_inv c.front_word-word.type_inv c.front_word-kept.ensures c.front_word-word.ensures c.if-kept-word.true above),
)

pub loop-place-preserved : goal.loop-place-preserved
loop-place-preserved c =
    within_more c.args.turned c.args.count c.args.old.now c.args.bits.now c.loop-place.place c.front_word-kept.result c.front_word-word.result
    c.front_word-kept.ensures c.front_word-word.ensures c.if-kept-word.false c.loop-place.invariant

pub returns : goal.returns
returns c = (
  λ yes. above_from_bits c.args.turned c.args.count c.args.old.now c.args.bits.now (λ i h e. c.loop-place.invariant i h (omega arith) e),
  λ above. refl,
)
