-- Words that are those of a plain die are those of no other.
use Rattle.std.proofs.Common.{◌≡◌, length, map, string_bytes, sym, ap, ◌∙◌, subst, Global}
use Rattle.lab_words.specs.declared.asked.DieKind.{DieKind}
use Rattle.lab_words.specs.Orders.{words_with}
use Rattle.lab_words.proofs.Spelling.{five_only}
use Rattle.lab_words.proofs.reading.read_blank.Goals as goal

pub returns-in-Some-clause-only : goal.returns-in-Some-clause-only
returns-in-Some-clause-only c die within is =
    let read = c.in-Some.die in
    let words = map (string_bytes {Z = Global}) c.args.words.now in
    let five : length words ≡ 5 = ap length (subst (λ (kind : DieKind). words ≡ words_with read.head kind) c.in-Some.ensures.kind c.in-Some.ensures.found.1) in
    let plain = five_only words die.head die.kind five is in
    sym c.in-Some.is ∙ c.read_plain.ensures.only die plain.0 within is
