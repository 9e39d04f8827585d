-- The chunks so far carry their messages in the cells that the code gives, and no higher bit is set.
use Rattle.std.proofs.Common.{◌≡◌, ℕ, ◌*◌, ◌<◌, ◌^◌, Bool, true, List}
use Rattle.wom_code.specs.Cells.{Carries}
use Rattle.wom_code.specs.Groups.{chunk_of}
use Rattle.wom_code.proofs.code.PackedCode.over_group.Given as goal

abbrev pub invariant-loop-j : goal.invariant-loop-j
invariant-loop-j g l = record {
  code : (row : List Bool) → g.Self.WomCode.decoding l.self row ≡ g.Self.WomCode.decoding l.fn.self row;
  cells : (before message after : List Bool) → g.Self.WomCode.gives l.self before message after ≡ g.Self.WomCode.gives l.fn.self before message after;
  narrow : l.new < 2 ^ (l.j * g.row.N);
  carried : (i : ℕ) → i < l.j → Carries (g.Self.WomCode.decoding l.fn.self) (chunk_of g.row.N l.cells i) (chunk_of g.row.K l.messages i) (chunk_of g.row.N l.new i);
  given : (i : ℕ) → i < l.j → g.Self.WomCode.gives l.fn.self (chunk_of g.row.N l.cells i) (chunk_of g.row.K l.messages i) (chunk_of g.row.N l.new i) ≡ true;
}
