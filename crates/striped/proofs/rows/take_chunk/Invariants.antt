-- The chunk is taken from the pages so far, and no later bit of the row is set.
use Rattle.std.proofs.Common.{◌≡◌, ℕ, ◌+◌, ◌*◌, ◌/◌, ◌%◌, ◌<◌, ◌≤◌}
use Rattle.cell_bits.specs.Cells.{charge_at}
use Rattle.wom_code.specs.Packed.{word_bit}
use Rattle.striped.proofs.rows.take_chunk.Given as goal

abbrev pub invariant-loop-page : goal.invariant-loop-page
invariant-loop-page l = record {
  taken : (c : ℕ) → c < l.page * l.cells → word_bit l.words c ≡ charge_at l.bytes (8 * l.page_bytes * (c / l.cells) + l.first + c % l.cells);
  above : (c : ℕ) → l.page * l.cells ≤ c → word_bit l.words c ≡ 0;
}
