-- When a die can be opened, and what its table tells so far.
use Rattle.std.specs.Prelude.{◌≡◌, ◌≢◌, ℕ, ◌+◌, ◌<◌, ◌≤◌, ◌||◌, Bool, true, false, not, min, List, length, drop, count_by, replicate, nat_le, slice_index, slice_index_or, slice_set, if◌then◌else◌}
use Rattle.cell_die.specs.declared.shape.Shape.{Shape}
use Rattle.cell_die.specs.Cells.{is_blank}
use Rattle.cell_die.specs.Counts.{Rose}
use Rattle.cell_die.specs.DieState.{DieState, page_of}
use Rattle.spare_die.specs.declared.book.Book.{Book}
use Rattle.spare_die.specs.declared.tally.Tally.{Tally}
use Rattle.spare_die.specs.declared.opening.Opening.{Opening}
use Rattle.spare_die.specs.declared.error.OpenError.{OpenError}
use Rattle.spare_die.specs.declared.error.OpenError.TheVariants.{OutOfMemory, Shape as WrongShape, DieFault, Table}
use Rattle.spare_die.specs.Table.{home_up_to, is_named, is_named_up_to, is_used, is_gated, logical_of, inner_of, named_count, used_count}
use Rattle.spare_die.specs.Entering.{IsBlankBlock}
use Rattle.spare_die.specs.Book.{HasRows}

-- two logical blocks at least, an inner block for each and one for the table, and room for an entry
pub record FitsShape (shape : Shape) (logical : ℕ) : Type 0 where
  pub two : 2 ≤ logical
  pub room : logical + 1 ≤ shape.blocks
  pub few_blocks : shape.blocks ≤ 1024
  pub few_pages : shape.pages ≤ 128
  pub gate : 9 ≤ shape.main_bytes

-- the first so many table pages: entries name logical blocks and reserve blocks, each reserve block once, and none stands after a blank page
pub record SoundUpTo (inner : DieState) (logical count : ℕ) : Type 0 where
  pub logical_inside : (page : ℕ) → page < count → is_gated (page_of inner page) ≡ true → logical_of (page_of inner page) < logical
  pub inner_past : (page : ℕ) → page < count → is_gated (page_of inner page) ≡ true → logical < inner_of (page_of inner page)
  pub inner_inside : (page : ℕ) → page < count → is_gated (page_of inner page) ≡ true → inner_of (page_of inner page) < inner.shape.blocks
  pub apart : (page later : ℕ) → page < later → later < count → is_gated (page_of inner page) ≡ true → is_gated (page_of inner later) ≡ true
      → inner_of (page_of inner page) ≢ inner_of (page_of inner later)
  pub order : (blank gated : ℕ) → blank < gated → gated < count → is_blank (page_of inner blank) ≡ true → is_gated (page_of inner gated) ≡ false

-- the reserve blocks below this one that no entry names are blank
abbrev pub SparesUpTo : DieState → ℕ → ℕ → Type 0
SparesUpTo inner logical count = (block : ℕ) → logical < block → block < count → is_named inner block ≡ false → IsBlankBlock inner block

-- the whole table is sound, and the reserve blocks that no entry names are blank
pub record IsSoundTable (inner : DieState) (logical : ℕ) : Type 0 where
  pub entries : SoundUpTo inner logical inner.shape.pages
  pub spares : SparesUpTo inner logical inner.shape.blocks

-- why a die is refused, in the order of the refusals
abbrev pub OpenCause : OpenError → DieState → DieState → ℕ → Type 0
OpenCause OutOfMemory inner new logical = FitsShape inner.shape logical
OpenCause WrongShape inner new logical = FitsShape inner.shape logical → ⊥
OpenCause DieFault inner new logical = FitsShape inner.shape logical × Rose inner.read_faults new.read_faults
OpenCause Table inner new logical = FitsShape inner.shape logical × (IsSoundTable inner logical → ⊥)

-- what is known before the first table page is read: each logical block is at home, and all of the reserve is free
pub record IsFresh (shape : Shape) (logical : ℕ) (opening : Opening) : Type 0 where
  pub homes_long : length opening.book.homes.items ≡ logical
  pub homes : (block : ℕ) → block < logical → slice_index opening.book.homes.items block ≡ 1 + block
  pub taken_long : length opening.book.taken.items ≡ shape.blocks
  pub taken : (block : ℕ) → block < shape.blocks → slice_index_or opening.book.taken.items block true ≡ nat_le block logical
  pub used_long : length opening.book.used.items ≡ shape.pages
  pub blank : opening.blank ≡ shape.pages

-- the counts at an opening
pub record IsFreshTally (book : Book) (logical : ℕ) (tally : Tally) : Type 0 where
  pub read_faults : tally.read_faults ≡ 0
  pub change_faults : tally.change_faults ≡ 0
  pub bad : tally.bad ≡ 0
  pub written : tally.written ≡ 0
  pub stopped : tally.stopped ≡ false
  -- the numbers of reserve blocks that are taken and of table pages that are used
  pub named : tally.named_at_opening ≡ count_by (λ (flag : Bool). flag) (drop (logical + 1) book.taken.items)
  pub pages : tally.pages_at_opening ≡ count_by (λ (flag : Bool). flag) book.used.items

-- the counts of a die begin: nothing is counted yet, and the table has these numbers
pub record StartsAt (inner : DieState) (logical : ℕ) (tally : Tally) : Type 0 where
  pub erases : tally.erases.items ≡ replicate logical 0
  pub read_faults : tally.read_faults ≡ 0
  pub change_faults : tally.change_faults ≡ 0
  pub bad : tally.bad ≡ 0
  pub written : tally.written ≡ 0
  pub stopped : tally.stopped ≡ false
  pub named : tally.named_at_opening ≡ named_count inner logical
  pub pages : tally.pages_at_opening ≡ used_count inner

-- nothing was done but reads
pub record OnlyReads (old new : DieState) : Type 0 where
  pub shape : new.shape ≡ old.shape
  pub cells : new.cells ≡ old.cells
  pub erases : new.erases ≡ old.erases
  pub fixed : new.fixed ≡ old.fixed
  pub read_faults : old.read_faults ≤ new.read_faults
  pub change_faults : new.change_faults ≡ old.change_faults

-- an entry may stand on the page, by the pages before it: it names a logical block and a free reserve block, and no blank page stands before it
pub record IsAdmitted (logical page block named : ℕ) (old : Opening) : Type 0 where
  pub logical_inside : block < logical
  pub free : slice_index_or old.book.taken.items named true ≡ false
  pub order : page ≤ old.blank

-- a table page is noted
pub record NotesPage (logical page : ℕ) (row : List ℕ) (old new : Opening) : Type 0 where
  pub used : new.book.used.items ≡ slice_set old.book.used.items page (not (is_blank row))
  pub blank : new.blank ≡ (if is_blank row then min old.blank page else old.blank)
  pub same_homes : is_gated row ≡ false → new.book.homes.items ≡ old.book.homes.items
  pub same_taken : is_gated row ≡ false → new.book.taken.items ≡ old.book.taken.items
  pub admitted : is_gated row ≡ true → IsAdmitted logical page (logical_of row) (inner_of row) old
  pub homes : is_gated row ≡ true → new.book.homes.items ≡ slice_set old.book.homes.items (logical_of row) (inner_of row)
  pub taken : is_gated row ≡ true → new.book.taken.items ≡ slice_set old.book.taken.items (inner_of row) true

-- an entry that cannot stand in the table
pub record IsWrongEntry (logical page : ℕ) (row : List ℕ) (old : Opening) : Type 0 where
  pub gated : is_gated row ≡ true
  pub wrong : IsAdmitted logical page (logical_of row) (inner_of row) old → ⊥

-- what the first so many table pages told
pub record Told (inner : DieState) (logical count : ℕ) (opening : Opening) : Type 0 where
  pub rows : HasRows inner logical opening.book
  pub sound : SoundUpTo inner logical count
  pub homes : (block : ℕ) → block < logical → slice_index opening.book.homes.items block ≡ home_up_to inner block count
  pub taken : (block : ℕ) → block < inner.shape.blocks → slice_index_or opening.book.taken.items block true ≡ nat_le block logical || is_named_up_to inner block count
  pub used : (page : ℕ) → page < count → slice_index_or opening.book.used.items page true ≡ is_used inner page
  -- the lowest blank page so far; a number past the table where there is none
  pub reach : count ≤ opening.blank → inner.shape.pages ≤ opening.blank
  pub blank : opening.blank < count → is_blank (page_of inner opening.blank) ≡ true
  pub used_below : (page : ℕ) → page < count → page < opening.blank → is_blank (page_of inner page) ≡ false
