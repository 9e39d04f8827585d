-- The first cells, turned by the flag, are the message.
use Rattle.std.proofs.Common.{◌≤◌, false, sym, ◌∙◌, ap, arith}
use Rattle.wom_code.specs.Cells.{cell_at}
use Rattle.wom_code.specs.Packed.{cells_of}
use Rattle.wom_code.specs.Turned.{turned_by}
use Rattle.wom_code.proofs.PackedLemmas.{get_or-cells_of, take-cells_of}
use Rattle.wom_code.proofs.flip.FlipPackedCode.decode_words.Goals as goal

pub returns-clause-message : goal.returns-clause-message
returns-clause-message g c =
    let fits : g.row.K ≤ g.row.N = omega (arith, c.args.self.now.fits) in
    c.take_front.ensures.bits
    ∙ ap (λ f. turned_by f (cells_of g.row.K c.args.cells.now)) (c.is_charged.ensures ∙ sym (get_or-cells_of g.row.N c.args.cells.now g.row.K false c.args.self.now.fits))
    ∙ ap (turned_by (cell_at (cells_of g.row.N c.args.cells.now) g.row.K)) (sym (take-cells_of g.row.K g.row.N c.args.cells.now fits))
