-- Each word adds its ones, and all words together have the charge of the row.
use Rattle.std.proofs.Common.{◌≡◌, ◌*◌, ◌+◌, length, get_or, count_ones, sym, ◌∙◌, ap, arith}
use Rattle.wom_code.specs.Packed.{word_bit}
use Rattle.wom_code.proofs.CountLemmas.{digit_sum, digit_sum-none, digit_sum_word, partial_le, charge-cells_of}
use Rattle.wom_code.proofs.front.count_charged_words.Goals as goal

pub loop-place-init : goal.loop-place-init
loop-place-init c = sym (digit_sum-none (word_bit c.args.words.now))

pub overflow_add-charged : goal.overflow_add-charged
overflow_add-charged c =
    let more = digit_sum_word c.args.words.now c.loop-place.place (c.type_inv.words c.loop-place.place).fits in
    let few = partial_le c.args.count c.args.words.now (c.loop-place.place + 1) c.requires (omega arith) in
    let so_far : c.loop-place.charged ≡ digit_sum (64 * c.loop-place.place) (word_bit c.args.words.now) = c.loop-place.invariant in
    record { fits = omega arith }

pub loop-place-preserved : goal.loop-place-preserved
loop-place-preserved c =
    ap (λ s. s + count_ones (get_or c.args.words.now c.loop-place.place 0)) c.loop-place.invariant
    ∙ sym (digit_sum_word c.args.words.now c.loop-place.place (c.type_inv.words c.loop-place.place).fits)

pub returns : goal.returns
returns c =
    let last : c.loop-place.place ≡ length c.args.words.now = omega arith in
    c.loop-place.invariant ∙ ap (λ q. digit_sum (64 * q) (word_bit c.args.words.now)) last ∙ sym (charge-cells_of c.args.count c.args.words.now c.requires)
