-- Erase counts, through the steps of a write or trim.
use Rattle.std.proofs.Common.{◌≡◌, ◌⊎◌, inl, inr, ℕ, ◌≤◌, List, Option, None, Some, ap, ◌∙◌, subst, arith, slice_index}
use Rattle.cell_die.specs.DieState.{DieState}
use Rattle.cell_die.specs.Changes.{SameCells, OnlyBlock, IsErased, ErasedInPart}
use Rattle.cell_die.specs.Calls.{Passed, ChangeFailed}
use Rattle.cell_die.proofs.Sequences.{read_failed_after, change_failed_after, read_failed_within, change_failed_within}
use Rattle.collector.specs.Erases.{ErasedOrBroken}
use Rattle.rssd_core.specs.Erases.{Erased, ErasedOrFailed}

pub whole_erased : (block : ℕ) (old new : DieState) → IsErased block old new → OnlyBlock block old new → Erased (Some block) old new
whole_erased block old new erased only = record { count = erased.count; others = only.counts }

pub torn_erased : (block : ℕ) (old new : DieState) → SameCells old new ⊎ ErasedInPart block old new → OnlyBlock block old new → ChangeFailed 1 0 old new → ErasedOrFailed (Some block) 0 old new
torn_erased block old new (inl same) only failed = inr (same.erases, inr failed)
torn_erased block old new (inr torn) only failed = inl (record { count = torn.count; others = only.counts })

pub broken_failed : (due : Option ℕ) (old new : DieState) → ErasedOrBroken due old new → ErasedOrFailed due 0 old new
broken_failed due old new (inl erased) = inl erased
broken_failed due old new (inr broken) = inr (broken.0, inr broken.1)

-- what comes after an erase raises no count
pub erased_then : (due : Option ℕ) (old mid new : DieState) → Erased due old mid → new.erases ≡ mid.erases → Erased due old new
erased_then None old mid new erased same = same ∙ erased
erased_then (Some block) old mid new erased same = record {
  count = ap (λ (counts : List ℕ). slice_index counts block) same ∙ erased.count;
  others = λ other apart. ap (λ (counts : List ℕ). slice_index counts other) same ∙ erased.others other apart;
}

-- nor does what comes before it
pub erased_after : (due : Option ℕ) (old mid new : DieState) → mid.erases ≡ old.erases → Erased due mid new → Erased due old new
erased_after due old mid new same erased = subst (λ (counts : List ℕ). Erased due (record old { erases = counts }) new) same (from due erased)
  where
    from : (due : Option ℕ) → Erased due mid new → Erased due (record old { erases = mid.erases }) new
    from None erased = erased
    from (Some block) erased = record { count = erased.count; others = erased.others }

pub failed_after : (due : Option ℕ) (reads : ℕ) (old mid new : DieState) → mid.erases ≡ old.erases → Passed 0 reads old mid → ErasedOrFailed due 0 mid new → ErasedOrFailed due reads old new
failed_after due reads old mid new same passed (inl erased) = inl (erased_after due old mid new same erased)
failed_after due reads old mid new same passed (inr (still, inl read)) = inr (still ∙ same, inl (read_failed_within 0 reads (omega arith) (omega arith) (read_failed_after passed read)))
failed_after due reads old mid new same passed (inr (still, inr change)) = inr (still ∙ same, inr (change_failed_within 1 reads (omega arith) (omega arith) (change_failed_after passed change)))

-- a bound on the reads may be greater
pub failed_within : (due : Option ℕ) (reads more : ℕ) (old new : DieState) → reads ≤ more → ErasedOrFailed due reads old new → ErasedOrFailed due more old new
failed_within due reads more old new few (inl erased) = inl erased
failed_within due reads more old new few (inr (still, inl read)) = inr (still, inl (read_failed_within 0 more (omega arith) few read))
failed_within due reads more old new few (inr (still, inr change)) = inr (still, inr (change_failed_within 1 more (omega arith) few change))
