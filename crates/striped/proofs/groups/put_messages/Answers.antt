-- The bits that stand within the sector are the lowest.
use Rattle.std.proofs.Common.{◌∙◌, arith}
use Rattle.cell_bits.proofs.PieceLemmas.{masked_bit}
use Rattle.striped.proofs.groups.put_messages.Goals as goal

pub returns-clause-put : goal.returns-clause-put
returns-clause-put c = λ i h l.
    let e = c.requires.here in
    c.put_cells.ensures.bits i (omega arith) ∙ masked_bit c.args.bits c.args.here c.ones.result i c.ones.ensures (omega arith)
