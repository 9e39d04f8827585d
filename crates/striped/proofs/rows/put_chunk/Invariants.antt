-- The chunk is put on the pages so far, and no other cell of any page changed.
use Rattle.std.proofs.Common.{◌≡◌, ℕ, ◌+◌, ◌*◌, ◌/◌, ◌%◌, ◌<◌, ◌≤◌, ◌⊎◌}
use Rattle.cell_bits.specs.Cells.{charge_at}
use Rattle.wom_code.specs.Packed.{word_bit}
use Rattle.striped.proofs.rows.put_chunk.Given as goal

abbrev pub invariant-loop-page : goal.invariant-loop-page
invariant-loop-page l = record {
  put : (c : ℕ) → c < l.page * l.cells → charge_at l.bytes (8 * l.page_bytes * (c / l.cells) + l.first + c % l.cells) ≡ word_bit l.words c;
  others : (page c : ℕ) → c < 8 * l.page_bytes → (c < l.first) ⊎ (l.first + l.cells ≤ c) → charge_at l.bytes (8 * l.page_bytes * page + c) ≡ charge_at l.fn.bytes (8 * l.page_bytes * page + c);
}
