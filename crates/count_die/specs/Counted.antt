-- What a die has counted of its calls, for each block and for each page, and what each call adds.
use Rattle.std.specs.Prelude.{◌≡◌, ◌≢◌, ℕ, ◌*◌, ◌/◌, ◌<◌, List, length, slice_index, slice_set, max}
use Rattle.cell_die.specs.Counts.{raised}

pub record Counted : Type 0 where
  -- of each block: the reads and the programs of its pages, the charges of their cells, and its erases
  pub reads : List ℕ
  pub programs : List ℕ
  pub charges : List ℕ
  pub erases : List ℕ
  -- of each page, since the last erase of its block that answered Ok: the programs, and the programs and charges together
  pub programs_since : List ℕ
  pub changes_since : List ℕ
  -- of each block, the most that a page of it has met of these between two erases, or up to now
  pub most_programs : List ℕ
  pub most_changes : List ℕ

-- the counts with that of this place one higher
abbrev pub raised_at : List ℕ → ℕ → List ℕ
raised_at counts place = slice_set counts place (raised (slice_index counts place))

-- the counts with that of this place no lower than this
abbrev pub at_least_at : List ℕ → ℕ → ℕ → List ℕ
at_least_at counts place count = slice_set counts place (max (slice_index counts place) count)

-- a read of a page of this block
abbrev pub with_read : ℕ → Counted → Counted
with_read block counted = record counted { reads = raised_at counted.reads block }

-- a program or a charge of this page of this block, which its own count has yet to say
abbrev pub with_change : ℕ → ℕ → Counted → Counted
with_change block page counted = record counted {
  changes_since = raised_at counted.changes_since page;
  most_changes = at_least_at counted.most_changes block (raised (slice_index counted.changes_since page));
}

-- a program of this page of this block
abbrev pub with_program : ℕ → ℕ → Counted → Counted
with_program block page counted = record (with_change block page counted) {
  programs = raised_at counted.programs block;
  programs_since = raised_at counted.programs_since page;
  most_programs = at_least_at counted.most_programs block (raised (slice_index counted.programs_since page));
}

-- a charge of a cell of this page of this block
abbrev pub with_charge : ℕ → ℕ → Counted → Counted
with_charge block page counted = record (with_change block page counted) { charges = raised_at counted.charges block }

-- an erase of this block
abbrev pub with_erase : ℕ → Counted → Counted
with_erase block counted = record counted { erases = raised_at counted.erases block }

-- each page of the block, of so many pages, begins anew, and the others stay
pub record BeginsAnew (pages block : ℕ) (old new : List ℕ) : Type 0 where
  pub same_length : length new ≡ length old
  pub here : (page : ℕ) → page / pages ≡ block → slice_index new page ≡ 0
  pub others : (page : ℕ) → page / pages ≢ block → slice_index new page ≡ slice_index old page

-- the pages of the block begin anew, and all else that was counted stays
pub record BlockBeginsAnew (pages block : ℕ) (old new : Counted) : Type 0 where
  pub programs : BeginsAnew pages block old.programs_since new.programs_since
  pub changes : BeginsAnew pages block old.changes_since new.changes_since
  pub same : new ≡ record old { programs_since = new.programs_since; changes_since = new.changes_since }

-- there is a count of each kind for each of so many blocks, of so many pages each, and for each of their pages
pub record HasSizes (blocks pages : ℕ) (counted : Counted) : Type 0 where
  pub some_pages : 0 < pages
  pub of_reads : length counted.reads ≡ blocks
  pub of_programs : length counted.programs ≡ blocks
  pub of_charges : length counted.charges ≡ blocks
  pub of_erases : length counted.erases ≡ blocks
  pub of_programs_since : length counted.programs_since ≡ blocks * pages
  pub of_changes_since : length counted.changes_since ≡ blocks * pages
  pub of_most_programs : length counted.most_programs ≡ blocks
  pub of_most_changes : length counted.most_changes ≡ blocks
