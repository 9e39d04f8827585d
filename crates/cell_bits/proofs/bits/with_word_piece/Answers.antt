-- A bit that is to change is turned over, and no bit outside the piece is.
use Rattle.cell_bits.proofs.PieceLemmas.{changed_bit, unchanged_below, unchanged_above}
use Rattle.cell_bits.proofs.bits.with_word_piece.Goals as goal

pub returns-clause-bits : goal.returns-clause-bits
returns-clause-bits c = changed_bit c.args.word c.args.first c.args.bits c.args.count c.ones.result c.ones.ensures c.requires.within

pub returns-clause-below : goal.returns-clause-below
returns-clause-below c = unchanged_below c.args.word c.args.first c.args.bits c.args.count c.ones.result c.ones.ensures c.requires.within

pub returns-clause-above : goal.returns-clause-above
returns-clause-above c = unchanged_above c.args.word c.args.first c.args.bits c.args.count c.ones.result c.ones.ensures c.requires.within
