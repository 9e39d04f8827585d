-- The cells of a page. A page is a list of bytes; cell c is bit c % 8 of byte c / 8, bit 0 being the least.
use Rattle.std.specs.Prelude.{ℕ, ◌/◌, ◌%◌, ◌^◌, List, [], slice_index, slice_index_or, slice_set, replicate, bit_or}
pub use Rattle.cell_bits.specs.Cells.{charge_at, is_charged, is_blank, with_charged, IsAbove}

-- the page with this cell charged
abbrev pub charge : List ℕ → ℕ → List ℕ
charge page cell = slice_set page (cell / 8) (bit_or (slice_index page (cell / 8)) (2 ^ (cell % 8)))

-- a page with no charged cell
abbrev pub blank_page : ℕ → List ℕ
blank_page bytes = replicate bytes 0

-- the page of this number
abbrev pub page_at : List (List ℕ) → ℕ → List ℕ
page_at cells page = slice_index_or cells page []
