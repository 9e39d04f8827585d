-- Erase counts: the erase of a spare raises its count by one, and what comes after it raises none.
use Rattle.std.proofs.Common.{◌≡◌, ◌⊎◌, inl, inr, ℕ, false, List, Option, None, Some, Result, Ok, Err, refl, sym, ap, ◌∙◌, subst, slice_index}
use Rattle.cell_die.specs.DieState.{DieState}
use Rattle.cell_die.specs.Changes.{SameCells, OnlyBlock, ErasedInPart}
use Rattle.cell_die.specs.Calls.{ChangeFailed}
use Rattle.block_state.specs.declared.state.State.{State}
use Rattle.block_state.specs.declared.state.State.TheVariants.{Spare}
use Rattle.block_state.specs.Book.{BookValue, state_at}
use Rattle.page_codec.specs.declared.fault.PutFault.{PutFault}
use Rattle.page_codec.specs.declared.fault.PutFault.TheVariants.{Read, Change}
use Rattle.collector.specs.Erases.{erased_in, Erased, ErasedOrBroken, EraseEnds}
use Rattle.collector.specs.Steps.{MadeBlank, was_blank, was_erased}

-- a spare that was made blank
pub made_erased : (spare : ℕ) (old new : DieState) (book after : BookValue) → MadeBlank spare old book new after → Erased (erased_in (state_at book spare) spare) old new
made_erased spare old _ book _ (was_blank is) = subst (λ (s : State). Erased (erased_in s spare) old old) (sym is) refl
made_erased spare old _ book _ (was_erased new is erased only kept passed) =
    subst (λ (s : State). Erased (erased_in s spare) old new) (sym is) (record { count = erased.count; others = only.counts })

-- an erase of it that failed
pub torn_erased : (spare : ℕ) (old new : DieState) (book : BookValue) → state_at book spare ≡ Spare false → SameCells old new ⊎ ErasedInPart spare old new → OnlyBlock spare old new
    → ChangeFailed 1 0 old new
    → ErasedOrBroken (erased_in (state_at book spare) spare) old new
torn_erased spare old new book is (inl same) only failed = inr (same.erases, failed)
torn_erased spare old new book is (inr torn) only failed = inl (subst (λ (s : State). Erased (erased_in s spare) old new) (sym is) (record { count = torn.count; others = only.counts }))

-- what comes after it raises no count
pub erased_then : (due : Option ℕ) (old mid new : DieState) → Erased due old mid → new.erases ≡ mid.erases → Erased due old new
erased_then None old mid new erased same = same ∙ erased
erased_then (Some block) old mid new erased same = record {
  count = ap (λ (counts : List ℕ). slice_index counts block) same ∙ erased.count;
  others = λ other apart. ap (λ (counts : List ℕ). slice_index counts other) same ∙ erased.others other apart;
}

pub ends_then : {A : Type 0} (due : Option ℕ) (result : Result A PutFault) (old mid new : DieState) → Erased due old mid → new.erases ≡ mid.erases → EraseEnds due result old new
ends_then due (Ok a) old mid new erased same = erased_then due old mid new erased same
ends_then due (Err Read) old mid new erased same = erased_then due old mid new erased same
ends_then due (Err Change) old mid new erased same = inl (erased_then due old mid new erased same)
