-- The mask keeps the bits below the count, and turned they differ from it.
use Rattle.std.proofs.Common.{sym, ◌∙◌, ap}
use Rattle.wom_code.specs.Turned.{front_bit}
use Rattle.wom_code.proofs.FrontLemmas.{straight_word, turned_word}
use Rattle.wom_code.proofs.front.front_word.Goals as goal

pub returns-then-turned : goal.returns-then-turned
returns-then-turned c = λ i e.
    turned_word c.args.words.now c.args.place i c.args.count c.bits_below-front.result e c.bits_below-front.ensures
    ∙ ap (λ t. front_bit t c.args.count c.args.words.now i) (sym c.if-turned.true)

pub returns-else-turned : goal.returns-else-turned
returns-else-turned c = λ i e.
    straight_word c.args.words.now c.args.place i c.args.count c.bits_below-front.result e c.bits_below-front.ensures
    ∙ ap (λ t. front_bit t c.args.count c.args.words.now i) (sym c.if-turned.false)
