-- The bits of the chunks so far are decoded.
use Rattle.std.proofs.Common.{◌≡◌, ℕ, ◌*◌, ◌<◌, length}
use Rattle.cell_bits.specs.Cells.{is_charged, AreBytes}
use Rattle.striped.specs.Striping.{striping, decoded_bit}
use Rattle.striped.proofs.groups.read_groups.Given as goal

abbrev pub invariant-loop-turn : goal.invariant-loop-turn
invariant-loop-turn g l = record {
  read : (x : ℕ) → x < l.turn * l.group * g.row.K → x < 8 * length l.fn.sector →
      is_charged l.sector x ≡ decoded_bit (striping g.row.K l.layout.page_cells g.row.N (length l.fn.sector)) g.row.N (g.C.WomCode.decoding l.code) l.bytes x;
  are : AreBytes l.sector;
}
