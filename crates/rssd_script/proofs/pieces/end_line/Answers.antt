-- What does not fit the room is longer than every line of the grammar.
use Rattle.std.proofs.Common.{◌+◌, ◌<◌, ◌++◌, length, refl, sym, ◌∙◌}
use Rattle.std.proofs.lemmas.List.{length-append}
use Rattle.rssd_script.proofs.Cuts.{long_spells_none}
use Rattle.rssd_script.proofs.Steps.{over}
use Rattle.rssd_script.proofs.pieces.end_line.Goals as goal

pub returns-then-is_err-clause-ok : goal.returns-then-is_err-clause-ok
returns-then-is_err-clause-ok c =
    let long = over c.try_extend_from_slice.result (length c.args.rest.now.items + length c.args.front.now) c.try_extend_from_slice.ensures.variant.1 (sym c.is_err.ensures.value ∙ c.if-is_err.true) in
    let more : 1048 < length (c.args.rest.now.items ++ c.args.front.now) = rw length-append long in
    (long_spells_none (c.args.rest.now.items ++ c.args.front.now) more, refl)
