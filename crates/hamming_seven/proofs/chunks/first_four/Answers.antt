-- The entry of the four messages in the table.
use Rattle.std.proofs.Common.{◌*◌, ◌/◌, ◌^◌, ◌∙◌, ap, bit_and, refl}
use Rattle.cell_bits.proofs.PieceLemmas.{masked_narrow}
use Rattle.hamming_seven.specs.Words.{first_of}
use Rattle.hamming_seven.proofs.ChunkLemmas.{messages_of_four}
use Rattle.hamming_seven.proofs.FirstTable.{first_narrow, first_entry}
use Rattle.hamming_seven.proofs.chunks.first_four.Goals as goal

pub returns-clause-first : goal.returns-clause-first
returns-clause-first c = λ t h.
    first_entry (bit_and (c.args.messages / 2 ^ (12 * c.args.four)) 4095) t (masked_narrow (c.args.messages / 2 ^ (12 * c.args.four)) 12 4095 refl) h
    ∙ ap (λ message. first_of message) (messages_of_four c.args.messages c.args.four (12 * c.args.four) t refl h)

pub returns-clause-narrow : goal.returns-clause-narrow
returns-clause-narrow c = first_narrow (bit_and (c.args.messages / 2 ^ (12 * c.args.four)) 4095) (masked_narrow (c.args.messages / 2 ^ (12 * c.args.four)) 12 4095 refl)
