-- The first cells of a longer row, not turned, are the message.
use Rattle.std.proofs.Common.{sym, ◌∙◌}
use Rattle.wom_code.specs.Packed.{cells_of}
use Rattle.wom_code.specs.Turned.{turned_false}
use Rattle.wom_code.proofs.PackedLemmas.{take-cells_of}
use Rattle.wom_code.proofs.plain.PlainPackedCode.decode_words.Goals as goal

pub returns-clause-message : goal.returns-clause-message
returns-clause-message g c = c.take_front.ensures.bits ∙ turned_false (cells_of g.row.K c.args.cells.now) ∙ sym (take-cells_of g.row.K g.row.N c.args.cells.now c.args.self.now.fits)
