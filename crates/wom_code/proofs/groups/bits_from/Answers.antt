-- Shifting down and masking keeps the bits of the piece alone.
use Rattle.cell_bits.proofs.PieceLemmas.{piece_bit}
use Rattle.wom_code.proofs.groups.bits_from.Goals as goal

pub returns-clause-bits : goal.returns-clause-bits
returns-clause-bits c = piece_bit c.args.word c.args.at c.args.count c.ones.result c.ones.ensures
