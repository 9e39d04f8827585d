-- Shifting down and masking keeps the bits of the piece alone.
use Rattle.cell_bits.proofs.PieceLemmas.{piece_bit, masked_narrow}
use Rattle.cell_bits.proofs.bits.word_piece.Goals as goal

pub returns-clause-bits : goal.returns-clause-bits
returns-clause-bits c = piece_bit c.args.word c.args.first c.args.count c.ones.result c.ones.ensures

pub returns-clause-narrow : goal.returns-clause-narrow
returns-clause-narrow c = masked_narrow _ c.args.count c.ones.result c.ones.ensures
