-- A row of bytes as pages of one length.
pub use Rattle.cell_die.specs.Tears.{Blended}
use Rattle.std.specs.Prelude.{◌≡◌, ◌≢◌, ℕ, ◌%◌, List, length, map, ◌==◌, if◌then◌else◌}
use Rattle.std.specs.Int.{bit_at}
use Rattle.std.specs.List.{range_with_len}
use Rattle.std.specs.Fork.{slice_chunk}
use Rattle.cell_die.specs.Cells.{charge_at}

abbrev pub pages_of : ℕ → ℕ → List ℕ → List (List ℕ)
pages_of size count bytes = map (slice_chunk bytes size) (range_with_len 0 count)

-- the bytes are as before but for this page, which has this content now
pub record ChangesPage (size page : ℕ) (old new content : List ℕ) : Type 0 where
  pub same_length : length new ≡ length old
  pub here : slice_chunk new size page ≡ content
  pub others : (other : ℕ) → other ≢ page → slice_chunk new size other ≡ slice_chunk old size other
