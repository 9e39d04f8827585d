-- Each half has the bits of its word.
use Rattle.coset_code.proofs.TurnLemmas.{bits_of_low}
use Rattle.coset_code.proofs.turned.low_cells.Goals as goal

pub returns : goal.returns
returns c = λ i h. bits_of_low c.args.old.now (c.type_inv.old 0).fits (c.type_inv.old 1).fits i h
