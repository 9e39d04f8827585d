-- All chunks took their messages, or one of them is carried by no cells above its own.
use Rattle.std.proofs.Common.{length, refl}
use Rattle.striped.proofs.SchemeLemmas.{same_meaning, carries_at, gives_at, none_above_at}
use Rattle.striped.proofs.stripes.StripedScheme.over.Goals as goal

pub returns-clause-carried : goal.returns-clause-carried
returns-clause-carried g c = λ e. record {
  above = (c.write_or_keep.ensures.written e).above;
  carries =
      carries_at g.row.K c.layout_of-layout.result.page_cells g.row.M g.row.N (length c.args.sector.now) c.args.self.now.sector_bytes
      (g.S.WomCode.decoding c.args.self.now.second) c.write_or_keep.new.bytes c.args.sector.now
      c.layout_of-layout.ensures.page_cells c.requires.sector (c.write_or_keep.ensures.written e).carried;
}

pub returns-clause-gives : goal.returns-clause-gives
returns-clause-gives g c = λ e.
    gives_at g.row.K c.layout_of-layout.result.page_cells g.row.M g.row.N (length c.args.sector.now) c.args.self.now.sector_bytes
    (g.S.WomCode.gives c.args.self.now.second) c.args.unit.now c.args.unit.now c.args.sector.now c.write_or_keep.new.bytes
    c.layout_of-layout.ensures.page_cells c.requires.sector refl (c.write_or_keep.ensures.written e).gives

pub returns-clause-declined : goal.returns-clause-declined
returns-clause-declined g c = λ e new over.
    none_above_at g.row.K c.layout_of-layout.result.page_cells g.row.M g.row.N (length c.args.sector.now) c.args.self.now.sector_bytes
    (g.S.WomCode.decoding c.args.self.now.second) c.args.unit.now c.args.sector.now
    c.layout_of-layout.ensures.page_cells c.requires.sector (c.write_or_keep.ensures.declined e) new over.above over.carries

pub returns-clause-same : goal.returns-clause-same
returns-clause-same g c =
    same_meaning g.row.K g.row.M g.row.N c.args.self.now.sector_bytes c.args.self.now.generations (g.F.WomCode.decoding c.args.self.now.first) (g.F.WomCode.decoding c.args.self.now.first)
    (g.F.WomCode.gives c.args.self.now.first) (g.F.WomCode.gives c.args.self.now.first) (g.S.WomCode.decoding c.args.self.now.second) (g.S.WomCode.decoding c.write_or_keep.new.code)
    (g.S.WomCode.gives c.args.self.now.second) (g.S.WomCode.gives c.write_or_keep.new.code)
    (λ row. refl) (λ a b c. refl) c.write_or_keep.ensures.same_code c.write_or_keep.ensures.same_cells
