-- Reads of pages one after another.
use Rattle.std.proofs.Common.{◌≡◌, ℕ, ◌+◌, ◌≤◌, false, Result, Ok, Err, refl, sym, ◌∙◌, arith}
use Rattle.std.specs.Result.{OnOk, is_err}
use Rattle.std.proofs.lemmas.Bool.{false≢true}
use Rattle.cell_die.specs.DieState.{DieState}
use Rattle.cell_die.specs.Changes.{SameCells}
use Rattle.cell_die.proofs.Sequences.{kept_refl, kept_trans, passed_none, passed_trans, read_failed_after, read_failed_within}
use Rattle.mount_scan.specs.Scanned.{Reads, FailsToRead}

same_trans : (old mid new : DieState) → SameCells old mid → SameCells mid new → SameCells old new
same_trans old mid new first second = record { cells = second.cells ∙ first.cells; erases = second.erases ∙ first.erases }

pub reads_none : (die : DieState) → Reads 0 die die
reads_none die = record { same_cells = record { cells = refl; erases = refl }; kept = kept_refl die; passed = passed_none die }

pub reads_more : (m n : ℕ) (old mid new : DieState) → Reads m old mid → Reads n mid new → Reads (m + n) old new
reads_more m n old mid new first second = record {
  same_cells = same_trans old mid new first.same_cells second.same_cells;
  kept = kept_trans first.kept second.kept;
  passed = passed_trans first.passed second.passed;
}

pub fails_after : (m n most : ℕ) (old mid new : DieState) → m + n ≤ most → Reads m old mid → FailsToRead n mid new → FailsToRead most old new
fails_after m n most old mid new within first second = record {
  same_cells = same_trans old mid new first.same_cells second.same_cells;
  kept = kept_trans first.kept second.kept;
  failed = read_failed_within 0 most (omega arith) within (read_failed_after first.passed second.failed);
}

-- a call that did not fail answered Ok
pub on_ok_holds : {T E P : Type 0} (result : Result T E) → is_err result ≡ false → OnOk result P → P
on_ok_holds (Ok x) ok held = held
on_ok_holds (Err e) ok held = absurd (false≢true (sym ok))
