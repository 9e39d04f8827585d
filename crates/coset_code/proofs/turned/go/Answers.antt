-- By rows, or with the out row as it was.
use Rattle.std.proofs.Common.{ℕ, List}
use Rattle.coset_code.proofs.CoordinateLemmas.{read}
use Rattle.coset_code.proofs.OverLemmas.{carried}
use Rattle.coset_code.proofs.UnitLemmas.{number_there}
use Rattle.coset_code.proofs.turned.go.Goals as goal

pub returns-then-try_rows-clause-went : goal.returns-then-try_rows-clause-went
returns-then-try_rows-clause-went c =
    let number = number_there c.args.bits c.args.message.now c.requires.message.count c.requires.table.some_bit c.requires.table.at_most_128 (λ i. (c.type_inv.message i).fits) in
    let columns : List ℕ = c.args.system.now.columns.items in
    let gone = c.try_rows.ensures.gone c.if-try_rows.true columns (read c.requires.system.coordinates c.deref.ensures.value) number.0 number.1 in
    (gone.row, carried c.args.bits columns _ _ number.0 c.args.message.now number.1 (record { above = gone.above; sum = gone.sum; solution = gone.solution }), gone.solution)
