-- The chunks so far carry their messages, all cells are above the old ones, and those of later chunks are the old ones.
use Rattle.std.proofs.Common.{◌≡◌, ℕ, ◌+◌, ◌*◌, ◌<◌, ◌≤◌, Bool, true, List, length}
use Rattle.cell_bits.specs.Cells.{charge_at, IsAbove}
use Rattle.striped.specs.Striping.{striping, chunk_cells, chunk_message}
use Rattle.striped.proofs.chunks.write_each.Given as goal

abbrev pub invariant-loop-i : goal.invariant-loop-i
invariant-loop-i g l = record {
  code : (row : List Bool) → g.C.WomCode.decoding l.code row ≡ g.C.WomCode.decoding l.fn.code row;
  carried : (j : ℕ) → j < l.i → g.C.WomCode.decoding l.fn.code (chunk_cells (striping g.row.K l.layout.page_cells g.row.N (length l.sector)) g.row.N l.bytes j)
      ≡ chunk_message (striping g.row.K l.layout.page_cells g.row.N (length l.sector)) l.sector j;
  cells : (a b c : List Bool) → g.C.WomCode.gives l.code a b c ≡ g.C.WomCode.gives l.fn.code a b c;
  gives : (j : ℕ) → j < l.i → g.C.WomCode.gives l.fn.code (chunk_cells (striping g.row.K l.layout.page_cells g.row.N (length l.sector)) g.row.N l.fn.bytes j)
      (chunk_message (striping g.row.K l.layout.page_cells g.row.N (length l.sector)) l.sector j)
      (chunk_cells (striping g.row.K l.layout.page_cells g.row.N (length l.sector)) g.row.N l.bytes j) ≡ true;
  above : IsAbove l.bytes l.fn.bytes;
  rest : (page c : ℕ) → c < 8 * l.layout.page_bytes → l.i * l.layout.page_cells ≤ c
      → charge_at l.bytes (8 * l.layout.page_bytes * page + c) ≡ charge_at l.fn.bytes (8 * l.layout.page_bytes * page + c);
}
