-- A single call never lets a cell fall, by what it changes.
use Rattle.std.proofs.Common.{ℕ, ◌≤◌, arith, ⊎_elim}
use Rattle.std.proofs.lemmas.Bool.{cases_eq}
use Rattle.cell_die.specs.Cells.{IsAbove}
use Rattle.cell_die.specs.Counts.{Rose, Stayed}
use Rattle.cell_die.specs.DieState.{DieState, page_of, block_of, erases_of}
use Rattle.cell_die.specs.Changes.{NeverFalls, SameCells, OnlyPage, OnlyBlock}
use Rattle.cell_bits.proofs.Above.{above_refl}

pub same_cells_never_fall : {old new : DieState} → SameCells old new → NeverFalls old new
same_cells_never_fall {old} {new} same = record {
  counts = λ block. rw same.erases (omega arith);
  cells = λ page stayed. rw same.cells (above_refl (page_of old page));
}

pub page_above_never_falls : {old new : DieState} (page : ℕ) → OnlyPage page old new → IsAbove (page_of new page) (page_of old page) → NeverFalls old new
page_above_never_falls {old} {new} page only above = record {
  counts = λ block. rw only.erases (omega arith);
  cells = λ other stayed. ⊎_elim
      (λ same. rw same above)
      (λ apart. rw (only.others other apart) (above_refl (page_of old other)))
      (cases_eq other page);
}

pub block_rose_never_falls : {old new : DieState} (block : ℕ) → OnlyBlock block old new → Rose (erases_of old block) (erases_of new block)
    → erases_of old block ≤ erases_of new block → NeverFalls old new
block_rose_never_falls {old} {new} block only rose higher = record {
  counts = λ other. ⊎_elim (λ same. rw same higher) (λ apart. rw (only.counts other apart) (omega arith)) (cases_eq other block);
  cells = λ page stayed. ⊎_elim
      (λ same. absurd (let stayed' : Stayed (erases_of old block) (erases_of new block) = rw same at stayed in omega arith))
      (λ apart. rw (only.pages page apart) (above_refl (page_of old page)))
      (cases_eq (block_of old page) block);
}
