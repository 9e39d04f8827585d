-- A die as contracts see it.
use Rattle.std.specs.Prelude.{◌≡◌, ℕ, ◌+◌, ◌*◌, ◌/◌, ◌<◌, List, Bool, Option, All, length, slice_index}
use Rattle.cell_die.specs.declared.shape.Shape.{Shape}
use Rattle.cell_die.specs.declared.shape.Torn.{Torn}
use Rattle.cell_die.specs.Cells.{page_at}

-- what a die may tell of its failures to come
pub record Failures : Type 0 where
  pub powered : Bool
  -- in how many change calls the armed cut comes; 0 where none is armed
  pub cut : ℕ
  -- the form of the armed cut
  pub form : Torn
  -- in how many reads the armed read failure comes; 0 where none is armed
  pub read_failure : ℕ

pub record DieState : Type 0 where
  pub shape : Shape
  -- the cells, page by page, in bytes
  pub cells : List (List ℕ)
  -- how often each block was erased
  pub erases : List ℕ
  -- the count of faults, in its two parts: the failed reads, and the failed changes
  pub read_faults : ℕ
  pub change_faults : ℕ
  -- numbers that the die chooses and that no call changes
  pub fixed : List ℕ
  pub failures : Option Failures

abbrev pub page_count : Shape → ℕ
page_count shape = shape.blocks * shape.pages

abbrev pub page_bytes : Shape → ℕ
page_bytes shape = shape.main_bytes + shape.spare_bytes

abbrev pub page_of : DieState → ℕ → List ℕ
page_of die page = page_at die.cells page

abbrev pub block_of : DieState → ℕ → ℕ
block_of die page = page / die.shape.pages

abbrev pub erases_of : DieState → ℕ → ℕ
erases_of die block = slice_index die.erases block

-- the die has the cells that its shape says, in bytes
pub record IsShaped (die : DieState) : Type 0 where
  pub some_pages : 0 < die.shape.pages
  pub pages : length die.cells ≡ page_count die.shape
  pub blocks : length die.erases ≡ die.shape.blocks
  pub lengths : (page : ℕ) → page < page_count die.shape → length (page_of die page) ≡ page_bytes die.shape
  pub bytes : (page : ℕ) → All (λ byte. byte < 256) (page_of die page)
