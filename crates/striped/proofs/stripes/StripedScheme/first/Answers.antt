-- The first code takes every message over blank cells, so the chunks of a blank page are never declined.
use Rattle.std.proofs.Common.{ℕ, ◌≤◌, ◌≡◌, ◌*◌, ◌==◌, ◌&&◌, Bool, List, length, replicate, ◌∙◌, sym, ap, ap₂, refl, subst, arith}
use Rattle.cell_bits.specs.Cells.{charge_at}
use Rattle.striped.specs.Striping.{striping, page_bytes, blank_page, chunks}
use Rattle.striped.proofs.LayoutLemmas.{fits_page, one_page_bytes}
use Rattle.striped.proofs.SchemeLemmas.{same_meaning, blank_takes, carries_at, gives_at, blank_cell, rest_blank}
use Rattle.striped.proofs.stripes.StripedScheme.first.Goals as goal

pub layout_of-requires : goal.layout_of-requires
layout_of-requires g c = fits_page g.row.K g.row.M g.row.N c.args.self.now.sector_bytes c.args.self.now.fitting

pub write_chunks-requires-clause-bytes : goal.write_chunks-requires-clause-bytes
write_chunks-requires-clause-bytes g c =
    let page : c.layout_of.result.page_bytes ≡ page_bytes (striping g.row.K g.row.M g.row.M c.args.self.now.sector_bytes) =
    c.layout_of.ensures.layout.page_is ∙ ap (λ (m : ℕ). page_bytes (striping g.row.K m g.row.M c.args.self.now.sector_bytes)) c.layout_of.ensures.page_cells in
    let some : 1 ≤ g.row.M = omega (arith, c.args.self.now.fitting.some_bits, c.args.self.now.fitting.fits) in
    one_page_bytes g.row.M c.layout_of.result.span c.layout_of.result.page_bytes _ some c.layout_of.ensures.span (c.fill.ensures.len ∙ (c.requires.page ∙ sym page))

pub write_chunks-requires-clause-blank : goal.write_chunks-requires-clause-blank
write_chunks-requires-clause-blank g c = λ said cell. ap (λ (row : List ℕ). charge_at row cell) (c.fill.ensures.after (λ y e. e)) ∙ blank_cell (length c.args.page.now) cell

pub unreachable-requires : goal.unreachable-requires
unreachable-requires g c =
    let blank : (cell : ℕ) → charge_at c.fill.new.self cell ≡ 0 = λ cell. ap (λ (row : List ℕ). charge_at row cell) (c.fill.ensures.after (λ y e. e)) ∙ blank_cell (length c.args.page.now) cell in
    blank_takes (striping g.row.K c.layout_of.result.page_cells g.row.M (length c.args.sector.now)) g.row.M (g.F.WomCode.decoding c.args.self.now.first) c.fill.new.self c.args.sector.now
    (g.met.F.FromBlank.takes_all c.args.self.now.first) (λ cell. ap (λ (n : ℕ). n == 1) (blank cell)) (c.in-Declined.ensures.declined refl)

pub returns-clause-gives : goal.returns-clause-gives
returns-clause-gives g c =
    let blank : c.fill.new.self ≡ blank_page (striping g.row.K g.row.M g.row.M c.args.self.now.sector_bytes) =
    c.fill.ensures.after (λ y e. e) ∙ ap (λ (n : ℕ). replicate n 0) c.requires.page in
    ap₂ (λ (a b : Bool). a && b)
    (carries_at g.row.K c.layout_of.result.page_cells g.row.M g.row.M (length c.args.sector.now) c.args.self.now.sector_bytes
    (g.F.WomCode.decoding c.args.self.now.first) c.write_chunks.new.bytes c.args.sector.now
    c.layout_of.ensures.page_cells c.requires.sector (c.in-Carried.ensures.written refl).carried)
    (gives_at g.row.K c.layout_of.result.page_cells g.row.M g.row.M (length c.args.sector.now) c.args.self.now.sector_bytes (g.F.WomCode.gives c.args.self.now.first) c.fill.new.self
    (blank_page (striping g.row.K g.row.M g.row.M c.args.self.now.sector_bytes)) c.args.sector.now c.write_chunks.new.bytes
    c.layout_of.ensures.page_cells c.requires.sector blank (c.in-Carried.ensures.written refl).gives)

pub returns-clause-rest : goal.returns-clause-rest
returns-clause-rest g c =
    let page : c.layout_of.result.page_bytes ≡ page_bytes (striping g.row.K g.row.M g.row.M c.args.self.now.sector_bytes) =
    c.layout_of.ensures.layout.page_is ∙ ap (λ (m : ℕ). page_bytes (striping g.row.K m g.row.M c.args.self.now.sector_bytes)) c.layout_of.ensures.page_cells in
    let blank : (cell : ℕ) → charge_at c.fill.new.self cell ≡ 0 = λ cell. ap (λ (row : List ℕ). charge_at row cell) (c.fill.ensures.after (λ y e. e)) ∙ blank_cell (length c.args.page.now) cell in
    let used : c.layout_of.result.chunks * c.layout_of.result.page_cells ≡ chunks (striping g.row.K g.row.M g.row.N c.args.self.now.sector_bytes) * g.row.M =
    ap₂ (λ (x y : ℕ). x * y) c.layout_of.ensures.layout.chunks_are c.layout_of.ensures.page_cells in
    λ cell past. rest_blank c.fill.new.self c.write_chunks.new.bytes c.layout_of.result.page_bytes (c.layout_of.result.chunks * c.layout_of.result.page_cells)
    (c.write_chunks.auto.bytes ∙ (c.fill.ensures.len ∙ (c.requires.page ∙ sym page))) blank (c.in-Carried.ensures.written refl).rest cell (subst (λ (n : ℕ). n ≤ cell) (sym used) past)

pub returns-clause-same : goal.returns-clause-same
returns-clause-same g c =
    same_meaning g.row.K g.row.M g.row.N c.args.self.now.sector_bytes c.args.self.now.generations (g.F.WomCode.decoding c.args.self.now.first) (g.F.WomCode.decoding c.write_chunks.new.code)
    (g.F.WomCode.gives c.args.self.now.first) (g.F.WomCode.gives c.write_chunks.new.code) (g.S.WomCode.decoding c.args.self.now.second) (g.S.WomCode.decoding c.args.self.now.second)
    (g.S.WomCode.gives c.args.self.now.second) (g.S.WomCode.gives c.args.self.now.second) c.write_chunks.ensures.same_code c.write_chunks.ensures.same_cells (λ row. refl) (λ a b c. refl)
