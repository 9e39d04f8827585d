-- Which block's erase count a call raises: that of the block that the clean page rule erases to get a page.
use Rattle.std.specs.Prelude.{◌≡◌, ◌⊎◌, ℕ, Option, None, Some}
use Rattle.cell_die.specs.DieState.{DieState}
use Rattle.cell_die.specs.Calls.{ChangeFailed, ReadFailed}
use Rattle.block_state.specs.Book.{BookValue, state_at}
use Rattle.page_alloc.specs.declared.next_page.NextPage.{NextPage}
use Rattle.page_alloc.specs.declared.next_page.NextPage.TheVariants.{Page, Take, Wipe, Collect}
use Rattle.collector.specs.Erases.{erased_in}
pub use Rattle.collector.specs.Erases.{Erased, ErasedOnce}

-- a victim without live records, or a Spare that is not known to be blank; none where a page is at hand or a Clean block is
abbrev pub erase_due : BookValue → NextPage → Option ℕ
erase_due v (Page page) = None
erase_due v (Take block) = None
erase_due v (Wipe block) = Some block
erase_due v (Collect victim spare) = erased_in (state_at v spare) spare

-- That erase was done; or a call failed before it counted: a read of the offered unit, of at most so many, or the erase itself,
-- which is the first change call.
abbrev pub ErasedOrFailed : Option ℕ → ℕ → DieState → DieState → Type 0
ErasedOrFailed due reads old new = Erased due old new ⊎ ((new.erases ≡ old.erases) × (ReadFailed 0 reads old new ⊎ ChangeFailed 1 reads old new))
