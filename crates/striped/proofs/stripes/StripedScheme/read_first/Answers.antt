-- A page is a unit of one page.
use Rattle.std.proofs.Common.{ℕ, ◌≤◌, ◌≡◌, ◌∙◌, sym, ap, arith}
use Rattle.striped.specs.Striping.{striping, page_bytes}
use Rattle.striped.proofs.LayoutLemmas.{fits_page, one_page_bytes}
use Rattle.striped.proofs.stripes.StripedScheme.read_first.Goals as goal

pub layout_of-requires : goal.layout_of-requires
layout_of-requires g c = fits_page g.row.K g.row.M g.row.N c.args.self.now.sector_bytes c.args.self.now.fitting

pub read_chunks-requires-clause-bytes : goal.read_chunks-requires-clause-bytes
read_chunks-requires-clause-bytes g c =
    let page : c.layout_of.result.page_bytes ≡ page_bytes (striping g.row.K g.row.M g.row.M c.args.self.now.sector_bytes) =
    c.layout_of.ensures.layout.page_is ∙ ap (λ (m : ℕ). page_bytes (striping g.row.K m g.row.M c.args.self.now.sector_bytes)) c.layout_of.ensures.page_cells in
    let some : 1 ≤ g.row.M = omega (arith, c.args.self.now.fitting.some_bits, c.args.self.now.fitting.fits) in
    one_page_bytes g.row.M c.layout_of.result.span c.layout_of.result.page_bytes _ some c.layout_of.ensures.span (c.requires.page ∙ sym page)
