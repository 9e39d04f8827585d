-- The byte's entry in the table.
use Rattle.std.proofs.Common.{◌*◌, ◌/◌, ◌^◌, ◌<◌, ◌∙◌, ap, bit_and, arith}
use Rattle.cell_bits.proofs.PieceLemmas.{masked_narrow}
use Rattle.rivest_shamir.specs.Triples.{with_sum}
use Rattle.rivest_shamir.proofs.ByteTables.{messages_of_byte}
use Rattle.rivest_shamir.proofs.SpreadLemmas.{spread_narrow, spread_entry}
use Rattle.rivest_shamir.proofs.triples.spread_byte.Goals as goal

pub returns-clause-spread : goal.returns-clause-spread
returns-clause-spread c = λ t h.
    let byte : bit_and (c.args.messages / 2 ^ (8 * c.args.byte)) 255 < 2 ^ 8 = masked_narrow (c.args.messages / 2 ^ (8 * c.args.byte)) 8 255 (omega arith) in
    spread_entry (bit_and (c.args.messages / 2 ^ (8 * c.args.byte)) 255) t byte h ∙ ap with_sum (messages_of_byte c.args.messages c.args.byte (8 * c.args.byte) t (omega arith) h)

pub returns-clause-narrow : goal.returns-clause-narrow
returns-clause-narrow c = spread_narrow (bit_and (c.args.messages / 2 ^ (8 * c.args.byte)) 255) (masked_narrow (c.args.messages / 2 ^ (8 * c.args.byte)) 8 255 (omega arith))
