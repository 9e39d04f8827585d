-- The pad cells: the cells of the spare area that no rule charges.
use Rattle.std.specs.Prelude.{◌≡◌, ℕ, ◌-◌, ◌*◌, ◌/◌, ◌%◌, Bool, true, false, not, List, ◌&&◌, ◌||◌, ◌==◌, nat_lt, nat_le}
use Rattle.cell_die.specs.declared.shape.Shape.{Shape}
use Rattle.cell_die.specs.Cells.{page_at, is_charged}

-- of the 128 cells of a slot: cells 1 to 7 of its gate byte and all of its seal byte, but for the block's seal, which is
-- cell 120 of slot 1 of the block's first page
abbrev pub is_pad_of_slot : Bool → ℕ → ℕ → Bool
is_pad_of_slot is_first_page slot cell =
    nat_le 1 cell && nat_le cell 7 || nat_le 120 cell && not (slot == 1 && cell == 120 && is_first_page)

-- whether this cell of this page is a pad cell; the spare area has a slot for each of its 16 bytes
abbrev pub is_pad : Shape → ℕ → ℕ → Bool
is_pad shape page cell =
    let spare_cell = cell - 8 * shape.main_bytes in
    nat_le (8 * shape.main_bytes) cell && nat_lt (spare_cell / 128) (shape.spare_bytes / 16)
    && is_pad_of_slot (page % shape.pages == 0) (spare_cell / 128) (spare_cell % 128)

-- no pad cell is charged
abbrev pub NoPadCharged : Shape → List (List ℕ) → Type 0
NoPadCharged shape cells = (page cell : ℕ) → is_pad shape page cell ≡ true → is_charged (page_at cells page) cell ≡ false
