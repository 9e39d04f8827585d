-- Each word has its place, and behind six stand those of a die.
use Rattle.std.proofs.Common.{drop, map, Some, string_bytes, sym, ap, ◌∙◌, subst, arith, Global}
use Rattle.std.proofs.lemmas.List.{take_rest, drop-map}
use Rattle.rssd_words.proofs.Items.{word_at}
use Rattle.lab_words.specs.Orders.{IsDrawnWithin}
use Rattle.lab_words.proofs.Spelling.{draw_is}
use Rattle.lab_words.proofs.reading.read_draw.Goals as goal

pub returns-in-len6-up-clause-only : goal.returns-in-len6-up-clause-only
returns-in-len6-up-clause-only c asked within is =
    let text = string_bytes {Z = Global} in
    let words = c.args.words.now in
    let d = draw_is (map text words) asked is in
    let behind = ap (map text) (take_rest words 6) ∙ sym (drop-map text 6 words) ∙ ap (drop 6) d.spelled in
    let voice = c.as_str-in-len6-up-4.ensures.value ∙ word_at _ _ d.spelled 0 (omega arith) c.voice-item.is in
    let kind = c.as_str.ensures.value ∙ word_at _ _ d.spelled 1 (omega arith) c.kind-item.is in
    let seed = c.as_str-in-len6-up.ensures.value ∙ word_at _ _ d.spelled 2 (omega arith) c.seed-item.is in
    let count = c.as_str-in-len6-up-2.ensures.value ∙ word_at _ _ d.spelled 3 (omega arith) c.count-item.is in
    let idle = c.as_str-in-len6-up-3.ensures.value ∙ word_at _ _ d.spelled 4 (omega arith) c.idle-item.is in
    let every = c.as_str-in-len6-up-5.ensures.value ∙ word_at _ _ d.spelled 5 (omega arith) c.every-item.is in
    let from = c.read_numbers-from.ensures.only d.kind d.seed d.count d.idle (subst IsDrawnWithin d.from within.from) kind seed count idle ∙ ap Some (sym d.from) in
    c.order.ensures.only asked within from voice every (c.read_die-die.ensures.only asked.die within.die behind)
