-- The chunks so far carry their messages, all cells are above the old ones, and those of later chunks are the old ones.
use Rattle.std.proofs.Common.{◌≡◌, ◌*◌, Bool, List, length}
use Rattle.striped.specs.Striping.{striping}
use Rattle.striped.proofs.GroupLemmas.{IsBegun}
use Rattle.striped.proofs.groups.write_groups.Given as goal

abbrev pub invariant-loop-turn : goal.invariant-loop-turn
invariant-loop-turn g l = record {
  code : (row : List Bool) → g.C.WomCode.decoding l.code row ≡ g.C.WomCode.decoding l.fn.code row;
  cells : (a b c : List Bool) → g.C.WomCode.gives l.code a b c ≡ g.C.WomCode.gives l.fn.code a b c;
  begun : IsBegun (striping g.row.K l.layout.page_cells g.row.N (length l.sector)) g.row.N (l.turn * l.group) (g.C.WomCode.decoding l.fn.code)
      (g.C.WomCode.gives l.fn.code) l.fn.bytes l.bytes l.sector;
}
