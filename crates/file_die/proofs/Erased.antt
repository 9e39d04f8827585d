-- An erase whose put failed: the block is erased in memory, or in part, or nothing changed.
use Rattle.std.proofs.Common.{◌≡◌, ◌⊎◌, inl, inr, ℕ, ◌/◌, ◌<◌, sym, subst, ⊎_elim, arith, refl}
use Rattle.std.specs.Prelude.{Result, Ok, Err, OnOk, OnErr}
use Rattle.std.proofs.Math.Nat.{div-lt_iff_lt-mul}
use Rattle.cell_die.specs.DieState.{DieState, IsShaped, page_of, page_bytes, block_of}
use Rattle.cell_die.specs.Changes.{SameCells, IsErased, ErasedInPart}
use Rattle.cell_die.proofs.CellLaws.{above_blank}
use Rattle.mem_die.specs.declared.mem.MemDie.{MemDie}
use Rattle.mem_die.specs.MemState.{mem_state, mem_shaped}
use Rattle.file_die.specs.FileView.{file_view}

-- blank pages are below any
erased_in_part : (old new : DieState) (block : ℕ) → IsShaped old → block < old.shape.blocks → IsErased block old new → ErasedInPart block old new
erased_in_part old new block shaped inside erased = record {
  below = λ page here.
      let within : page / old.shape.pages < old.shape.blocks = omega (arith, here) in
      rw (erased.blank page here)
      (above_blank (page_of old page) (page_bytes old.shape)
      (shaped.lengths page ((div-lt_iff_lt-mul {k = old.shape.pages} {x = page} {y = old.shape.blocks} shaped.some_pages).0 within)));
  count = erased.count;
}

abbrev pub InPart : ℕ → DieState → DieState → Type 0
InPart block old new = SameCells old new ⊎ ErasedInPart block old new

either : {T E : Type 0} (r : Result T E) (old new : DieState) (block : ℕ) → IsShaped old → block < old.shape.blocks → OnOk r (IsErased block old new) → OnErr r (InPart block old new)
    → InPart block old new
either (Ok x) old new block shaped inside ok err = inr (erased_in_part old new block shaped inside ok)
either (Err e) old new block shaped inside ok err = err

-- with any number of puts that failed
viewed : (old new : DieState) (m n block : ℕ) → InPart block old new → InPart block (file_view old m) (file_view new n)
viewed old new m n block part = ⊎_elim
    (λ same. inl (record { cells = same.cells; erases = same.erases }))
    (λ in_part. inr (record { below = in_part.below; count = in_part.count }))
    part

on_err : {T E P : Type 0} (r : Result T E) → P → OnErr r P
on_err (Ok x) p = tt
on_err (Err e) p = p

pub erase_not_kept : {T E S F : Type 0} (answer : Result T E) (done : Result S F) (old new : MemDie) (m n block : ℕ) → block < (mem_state old).shape.blocks
    → OnOk done (IsErased block (mem_state old) (mem_state new))
    → OnErr done (InPart block (mem_state old) (mem_state new)) → OnErr answer (InPart block (file_view (mem_state old) m) (file_view (mem_state new) n))
erase_not_kept answer done old new m n block inside ok err =
    on_err answer (viewed (mem_state old) (mem_state new) m n block (either done (mem_state old) (mem_state new) block (mem_shaped old) inside ok err))
