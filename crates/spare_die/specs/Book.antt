-- What a die that replaces bad blocks knows of its inner die, and the facts that it keeps.
use Rattle.std.specs.Prelude.{◌≡◌, ℕ, ◌+◌, ◌/◌, ◌<◌, ◌≤◌, true, false, ◌||◌, length, nat_le, slice_index, slice_index_or}
use Rattle.cell_die.specs.Counts.{Rose}
use Rattle.cell_die.specs.Cells.{is_blank, blank_page}
use Rattle.cell_die.specs.DieState.{DieState, page_of, page_bytes}
use Rattle.spare_die.specs.declared.book.Book.{Book}
use Rattle.spare_die.specs.declared.tally.Tally.{Tally}
use Rattle.spare_die.specs.Table.{HasHomes, home, is_named, is_used, is_gated, named_count, used_count, reserve_count}

-- the book has a row for each logical block, each inner block and each table page
pub record HasRows (inner : DieState) (logical : ℕ) (book : Book) : Type 0 where
  pub homes : length book.homes.items ≡ logical
  pub taken : length book.taken.items ≡ inner.shape.blocks
  pub used : length book.used.items ≡ inner.shape.pages

-- the reserve blocks that no entry names are blank, and no entry stands after a blank table page
pub record IsOrderlyTable (inner : DieState) (logical : ℕ) : Type 0 where
  pub spares : (block page : ℕ) → logical < block → block < inner.shape.blocks → is_named inner block ≡ false → page / inner.shape.pages ≡ block
      → page_of inner page ≡ blank_page (page_bytes inner.shape)
  pub order : (blank gated : ℕ) → blank < gated → gated < inner.shape.pages → is_blank (page_of inner blank) ≡ true → is_gated (page_of inner gated) ≡ false

-- the book tells the homes, the inner blocks that are no longer free, and the table pages that are not blank
pub record IsBookOf (inner : DieState) (logical : ℕ) (book : Book) : Type 0 where
  pub homes : (block : ℕ) → block < logical → slice_index book.homes.items block ≡ home inner block
  pub taken : (block : ℕ) → block < inner.shape.blocks → slice_index_or book.taken.items block true ≡ nat_le block logical || is_named inner block
  pub used : (page : ℕ) → page < inner.shape.pages → slice_index_or book.used.items page true ≡ is_used inner page

-- no unnamed reserve block or no blank table page is left
abbrev pub IsUsedUp : DieState → ℕ → Type 0
IsUsedUp inner logical = (block page : ℕ) → logical < block → block < inner.shape.blocks → page < inner.shape.pages → is_named inner block ≡ false → is_used inner page ≡ true

-- an erase went bad, and reserve or table is used up
abbrev pub BadUsedUp : DieState → ℕ → ℕ → ℕ → Type 0
BadUsedUp inner before now logical = Rose before now × IsUsedUp inner logical

-- the table has as many more names and used pages as entries were written since the opening
pub record IsCounted (inner : DieState) (logical : ℕ) (tally : Tally) : Type 0 where
  pub named : named_count inner logical ≡ tally.named_at_opening + tally.written
  pub used : used_count inner ≡ tally.pages_at_opening + tally.written

-- the five facts that the die keeps
pub record KeepsFacts (inner : DieState) (bad_erases : ℕ) (logical : ℕ) (tally : Tally) : Type 0 where
  -- the inner die counts each erase that answered Bad
  pub bad_counted : tally.bad ≤ bad_erases
  -- no entry is written but for an erase that answered Bad
  pub entries_bounded : tally.written ≤ tally.bad
  -- where no change call of the inner die failed, an own count is above 0 only where reserve or table is used up and an erase that answered Bad has no entry
  pub own_explained : 0 < tally.read_faults + tally.change_faults → inner.change_faults ≡ 0 → IsUsedUp inner logical × (tally.written < tally.bad)
  pub table_counted : inner.change_faults ≡ 0 → IsCounted inner logical tally
  -- and its own part of reads only where its own part of changes is
  pub reads_explained : 0 < tally.read_faults → inner.change_faults ≡ 0 → 0 < tally.change_faults

-- what the die knows: its book is true up to the first failed change call, and after it as well where that failed for want of reserve or table
pub record IsOrderly (inner : DieState) (bad_erases : ℕ) (logical : ℕ) (book : Book) (tally : Tally) : Type 0 where
  pub homes : HasHomes inner logical
  pub rows : HasRows inner logical book
  pub erases : length tally.erases.items ≡ logical
  pub bad : tally.bad ≤ bad_erases
  pub written : tally.written ≤ tally.bad
  -- not more reserve blocks were named than there are
  pub room : tally.named_at_opening + tally.written ≤ reserve_count inner logical
  pub table : (tally.stopped ≡ true → inner.change_faults ≡ 0) → IsOrderlyTable inner logical
  pub true_book : (tally.stopped ≡ true → inner.change_faults ≡ 0) → IsBookOf inner logical book
  pub counted : (tally.stopped ≡ true → inner.change_faults ≡ 0) → IsCounted inner logical tally
  pub no_reads : tally.stopped ≡ false → tally.read_faults ≡ 0
  pub no_changes : tally.stopped ≡ false → tally.change_faults ≡ 0
  pub used_up : tally.stopped ≡ true → inner.change_faults ≡ 0 → IsUsedUp inner logical
  pub bad_more : tally.stopped ≡ true → inner.change_faults ≡ 0 → tally.written < tally.bad
  pub own_counted : tally.stopped ≡ true → inner.change_faults ≡ 0 → 0 < tally.change_faults
