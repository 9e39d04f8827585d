-- A tally as contracts see it.
use Rattle.std.specs.Prelude.{◌≡◌, ℕ, ◌*◌, replicate}
use Rattle.count_die.specs.declared.tally.Tally.{Tally}
use Rattle.count_die.specs.Counted.{Counted}

-- what it has counted
abbrev pub counted_of : Tally → Counted
counted_of tally = record {
  reads = tally.reads.items;
  programs = tally.programs.items;
  charges = tally.charges.items;
  erases = tally.erases.items;
  programs_since = tally.programs_since.items;
  changes_since = tally.changes_since.items;
  most_programs = tally.most_programs.items;
  most_changes = tally.most_changes.items;
}

-- how many blocks it counts for, and of how many pages each
abbrev pub blocks_of : Tally → ℕ
blocks_of tally = tally.blocks

abbrev pub pages_of : Tally → ℕ
pages_of tally = tally.pages

-- nothing was counted yet
pub record IsZero (blocks pages : ℕ) (counted : Counted) : Type 0 where
  pub reads : counted.reads ≡ replicate blocks 0
  pub programs : counted.programs ≡ replicate blocks 0
  pub charges : counted.charges ≡ replicate blocks 0
  pub erases : counted.erases ≡ replicate blocks 0
  pub programs_since : counted.programs_since ≡ replicate (blocks * pages) 0
  pub changes_since : counted.changes_since ≡ replicate (blocks * pages) 0
  pub most_programs : counted.most_programs ≡ replicate blocks 0
  pub most_changes : counted.most_changes ≡ replicate blocks 0
