-- The table of bad blocks: the pages of the inner block 0, each of which may name a reserve block in place of a logical block.
use Rattle.std.specs.Prelude.{◌≡◌, ℕ, zero, suc, ◌+◌, ◌-◌, ◌<◌, ◌++◌, replicate, ◌≤◌, ◌==◌, ◌&&◌, List, Bool, true, false, take, drop, not, count_by, if◌then◌else◌}
use Rattle.std.specs.List.{range_with_len}
use Rattle.std.specs.Int.{w32, from_le_bytes, to_le_bytes}
use Rattle.cell_die.specs.Cells.{is_charged, is_blank}
use Rattle.cell_die.specs.DieState.{DieState, page_of}

-- a table page is an entry where its gate, cell 64, is charged
abbrev pub is_gated : List ℕ → Bool
is_gated page = is_charged page 64

-- bytes 0 to 3 name the logical block
abbrev pub logical_of : List ℕ → ℕ
logical_of page = from_le_bytes w32 (take 4 page)

-- bytes 4 to 7 name the inner block
abbrev pub inner_of : List ℕ → ℕ
inner_of page = from_le_bytes w32 (take 4 (drop 4 page))

-- the page of an entry whose gate is not charged
abbrev pub entry_page : ℕ → ℕ → ℕ → List ℕ
entry_page logical inner bytes = to_le_bytes w32 logical ++ to_le_bytes w32 inner ++ replicate (bytes - 8) 0

-- whether the page is an entry for this logical block
abbrev pub is_entry_for : ℕ → List ℕ → Bool
is_entry_for block page = is_gated page && (logical_of page == block)

-- the inner block of a logical block, by the first so many table pages: the last entry for it names it, and block 1 + b is it where there is none
unfoldable pub home_up_to : DieState → ℕ → ℕ → ℕ
home_up_to inner block zero = 1 + block
home_up_to inner block (suc count) = if is_entry_for block (page_of inner count) then inner_of (page_of inner count) else home_up_to inner block count

-- the inner block of a logical block, by all table pages
abbrev pub home : DieState → ℕ → ℕ
home inner block = home_up_to inner block inner.shape.pages

-- whether the page is an entry that names this inner block
abbrev pub is_entry_of : ℕ → List ℕ → Bool
is_entry_of block page = is_gated page && (inner_of page == block)

-- whether one of the first so many table pages is an entry that names this inner block
unfoldable pub is_named_up_to : DieState → ℕ → ℕ → Bool
is_named_up_to inner block zero = false
is_named_up_to inner block (suc count) = if is_entry_of block (page_of inner count) then true else is_named_up_to inner block count

-- whether an entry of the table names this inner block
abbrev pub is_named : DieState → ℕ → Bool
is_named inner block = is_named_up_to inner block inner.shape.pages

-- whether a table page has a charged cell
abbrev pub is_used : DieState → ℕ → Bool
is_used inner page = not (is_blank (page_of inner page))

-- how many reserve blocks there are
abbrev pub reserve_count : DieState → ℕ → ℕ
reserve_count inner logical = inner.shape.blocks - (1 + logical)

-- how many reserve blocks entries name
abbrev pub named_count : DieState → ℕ → ℕ
named_count inner logical = count_by (is_named inner) (range_with_len (1 + logical) (inner.shape.blocks - (1 + logical)))

-- how many table pages have a charged cell
abbrev pub used_count : DieState → ℕ
used_count inner = count_by (is_used inner) (range_with_len 0 inner.shape.pages)

-- the logical blocks have inner blocks of their own, none of which is the table
pub record HasHomes (inner : DieState) (logical : ℕ) : Type 0 where
  pub room : logical + 1 ≤ inner.shape.blocks
  pub few_blocks : inner.shape.blocks ≤ 1024
  pub few_pages : inner.shape.pages ≤ 128
  pub gate : 9 ≤ inner.shape.main_bytes
  pub inside : (block : ℕ) → block < logical → home inner block < inner.shape.blocks
  pub past_table : (block : ℕ) → block < logical → 1 ≤ home inner block
  pub apart : (block other : ℕ) → block < logical → other < logical → home inner block ≡ home inner other → block ≡ other
