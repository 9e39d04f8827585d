-- What the single steps of a collection leave.
use Rattle.std.specs.Prelude.{◌≡◌, ℕ, ◌+◌, true, false, List, if◌then◌else◌, Result, Ok, Err}
use Rattle.zero_count.specs.declared.Header.{Header}
use Rattle.cell_die.specs.DieState.{DieState}
use Rattle.cell_die.specs.Changes.{SameCells, IsErased, OnlyBlock}
use Rattle.cell_die.specs.Calls.{Kept, Passed, ChangeFailed, ReadFailed}
use Rattle.striped.specs.Meaning.{Meaning}
use Rattle.block_state.specs.declared.state.State.TheVariants.{Spare}
use Rattle.block_state.specs.Book.{BookValue, state_at, with_state}
use Rattle.page_codec.specs.declared.place.Place.{Place}
use Rattle.page_codec.specs.declared.fault.PutFault.{PutFault}
use Rattle.page_codec.specs.declared.fault.PutFault.TheVariants.{Read, Change}
use Rattle.page_codec.specs.Promises.{KeepsRecords}
use Rattle.page_codec.specs.Puts.{Puts, first_slot, is_gated}
use Rattle.page_codec.specs.Sectors.{says_zeros}
use Rattle.page_codec.specs.Units.{reads_of}
use Rattle.collector.specs.Collections.{copied_kind}
use Rattle.collector.specs.Says.{SaysSame}

-- the spare was made blank: it was known to be, or it was erased
pub data MadeBlank (spare : ℕ) (old : DieState) (book : BookValue) : DieState → BookValue → Type 0 where
  was_blank : state_at book spare ≡ Spare true → MadeBlank spare old book old book
  was_erased : (new : DieState) → state_at book spare ≡ Spare false → IsErased spare old new → OnlyBlock spare old new → Kept old new → Passed 1 0 old new
      → MadeBlank spare old book new (with_state book spare (Spare true))

-- the header of a copy
abbrev pub copied_header : Header → ℕ → Header
copied_header header seq = record { sector = header.sector; seq = seq; kind = copied_kind header }

-- the reads of a copy: none where the record says zeros
abbrev pub copy_reads : Meaning → Place → Header → ℕ
copy_reads meaning place header = if says_zeros header then 0 else reads_of meaning place

-- A number was drawn for a header, which was put on a page. From then on the spare is not known to be blank.
pub record PutsDrawn (Content : (ℕ → List ℕ) → Type 0) (spare page : ℕ) (header : Header) (old : DieState) (book : BookValue) (seq : ℕ) (new : DieState) (after : BookValue) (next : ℕ) : Type 0 where
  pub put : Puts Content 1 (first_slot page) header old new
  pub records : KeepsRecords (first_slot page) header old new
  pub marked : after ≡ with_state book spare (Spare false)
  pub drawn : next ≡ seq + 1

-- how a copy ends: it stands behind its gate, or a read failed and nothing was changed, or a change call failed
abbrev pub CopyEnds : {T : Type 0} → Meaning → ℕ → ℕ → Place → Header → Result T PutFault → DieState → BookValue → ℕ → DieState → BookValue → ℕ → Type 0
CopyEnds meaning spare page place header (Ok done) old book seq new after next =
    PutsDrawn (SaysSame meaning old place header page) spare page (copied_header header seq) old book seq new after next × (is_gated new (first_slot page) ≡ true)
    × Passed 2 (copy_reads meaning place header) old new
CopyEnds meaning spare page place header (Err Read) old book seq new after next =
    SameCells old new × (after ≡ book) × (next ≡ seq) × ReadFailed 0 (copy_reads meaning place header) old new
CopyEnds meaning spare page place header (Err Change) old book seq new after next =
    PutsDrawn (SaysSame meaning old place header page) spare page (copied_header header seq) old book seq new after next × ChangeFailed 2 (copy_reads meaning place header) old new
