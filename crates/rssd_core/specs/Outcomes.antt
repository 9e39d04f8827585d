-- What a call of a device leaves, one record for each outcome.
use Rattle.std.specs.Prelude.{◌≡◌, ◌⊎◌, ℕ, ◌+◌, ◌*◌, ◌^◌, ◌<◌, ◌≤◌, Bool, true, false, List, length, All, slice_set, replicate}
use Rattle.cell_die.specs.Counts.{count_sum}
use Rattle.cell_die.specs.Changes.{SameCells}
use Rattle.cell_die.specs.Calls.{Kept, ChangeFailed, ReadFailed, PassedWithin}
use Rattle.cell_die.specs.Pads.{NoPadCharged}
use Rattle.block_state.specs.Book.{BookValue}
use Rattle.page_codec.specs.Geometry.{shape_of}
use Rattle.page_codec.specs.Sound.{IsSound}
use Rattle.page_codec.specs.TrueBook.{IsTrueBook, live_map}
use Rattle.rssd_core.specs.declared.device.Placed.{Placed}
use Rattle.rssd_core.specs.declared.device.Placed.TheVariants.{First, Second, Declined}
use Rattle.rssd_core.specs.Rules.{next_page}
use Rattle.rssd_core.specs.BookChanges.{Change, EachOnce, OffersLast, OffersAtEnd, passes, is_idle}
use Rattle.rssd_core.specs.Erases.{erase_due, ErasedOrFailed}
use Rattle.rssd_core.specs.Calls.{move_reads}
use Rattle.rssd_core.specs.DeviceValue.{Numbers, DeviceView, DeviceValue, rows_of}
use Rattle.rssd_core.specs.Moves.{MovesBook, MovesSeq, WhereCut, CollectAtCut, sealed_records}
use Rattle.rssd_core.specs.Writes.{OfferCarries, WentTo, WriteDraws, WriteErased, FailsOver, TrimLeaves}
use Rattle.rssd_core.specs.IdleRule.{IdleMoves, IdleUnfinished, NoMoveLeft, moment_of}
use Rattle.rssd_core.specs.Within.{Went, WithinWrite, WithinTrim, WithinIdle, Finished, IsCollect, holds_bytes, record_of, write_calls, write_reads, WriteBounded, trim_calls, trim_reads}

-- while no change call failed the book is true to the cells
abbrev pub TrueWhileRunning : Numbers → DeviceValue → Type 0
TrueWhileRunning d device = device.stopped ≡ false
    → IsTrueBook d.geometry d.reuse_max device.view.die.cells device.view.book (live_map d.geometry device.view.die.cells) device.view.seq

-- after any call, Ok or not
pub record Holds (d : Numbers) (old new : DeviceValue) : Type 0 where
  pub numbers : new.numbers ≡ old.numbers
  pub kept : Kept old.view.die new.view.die
  pub no_pad : NoPadCharged (shape_of d.geometry) old.view.die.cells → NoPadCharged (shape_of d.geometry) new.view.die.cells
  pub sound : IsSound d.geometry old.view.die.cells → IsSound d.geometry new.view.die.cells
  pub true_book : TrueWhileRunning d new

-- ---- the tallies of writes

abbrev pub firsts : Placed → ℕ
firsts First = 1
firsts _ = 0

abbrev pub seconds : Placed → ℕ
seconds Second = 1
seconds _ = 0

abbrev pub declines : Placed → ℕ
declines Declined = 1
declines _ = 0

-- the tally of the answer rises by one
pub record CountsOne (placed : Placed) (old new : DeviceView) : Type 0 where
  pub first : new.first ≡ count_sum old.first (firsts placed)
  pub second : new.second ≡ count_sum old.second (seconds placed)
  pub declined : new.declined ≡ count_sum old.declined (declines placed)

pub record SameCounts (old new : DeviceView) : Type 0 where
  pub first : new.first ≡ old.first
  pub second : new.second ≡ old.second
  pub declined : new.declined ≡ old.declined

-- ---- a failed call of the die

-- a read failed: the device goes on, and the sectors are as before
pub record ReadFault (d : Numbers) (Within : ℕ → ℕ → Type 0) (old new : DeviceValue) : Type 0 where
  pub changes : ℕ
  pub reads : ℕ
  pub within : Within changes reads
  pub failed : ReadFailed changes reads old.view.die new.view.die
  pub rows : rows_of d new.view ≡ rows_of d old.view
  pub running : new.stopped ≡ false

-- a change call failed: the device is stopped, and over sound cells the sectors are as before or as they were to be
pub record ChangeFault (d : Numbers) (Within : ℕ → ℕ → Type 0) (done : List (List ℕ)) (old new : DeviceValue) : Type 0 where
  pub changes : ℕ
  pub reads : ℕ
  pub within : Within changes reads
  pub failed : ChangeFailed changes reads old.view.die new.view.die
  pub rows : IsSound d.geometry old.view.die.cells → (rows_of d new.view ≡ rows_of d old.view) ⊎ (rows_of d new.view ≡ done)
  pub stopped : new.stopped ≡ true

abbrev pub Faulted : Numbers → (ℕ → ℕ → Type 0) → List (List ℕ) → DeviceValue → DeviceValue → Type 0
Faulted d Within done old new = ReadFault d Within old new ⊎ ChangeFault d Within done old new

-- ---- write

-- which uses of rules a write may make
abbrev pub WriteMay : Placed → List Change → Type 0
WriteMay First changes = (passes changes ≡ 0) × EachOnce changes × OffersLast changes
WriteMay Second changes = (passes changes ≡ 1) × EachOnce changes × OffersLast changes
WriteMay Declined changes = (passes changes ≡ 1) × EachOnce changes × OffersLast changes

-- the tally of moved records rises by those of the seals
abbrev pub RisesSealed : BookValue → List Change → ℕ → Type 0
RisesSealed v changes rise = rise ≡ sealed_records v changes

-- a write that collects does so at a cut
abbrev pub WriteAtCut : Numbers → DeviceView → List ℕ → ℕ → ℕ → Type 0
WriteAtCut d old bytes c rise = (OfferCarries d old bytes → ⊥) → CollectAtCut old.book c rise

pub record Wrote (d : Numbers) (sector : ℕ) (bytes : List ℕ) (placed : Placed) (old new : DeviceValue) : Type 0 where
  pub fresh : old.view.seq < 2 ^ 62
  pub rows : rows_of d new.view ≡ slice_set (rows_of d old.view) sector bytes
  pub place : WentTo d old.view new.view sector bytes placed
  pub draws : WriteDraws old.view new.view placed
  pub calls : Went (write_calls d old.view placed) (write_reads d old.view placed) (WriteBounded old.view placed) old.view.die new.view.die
  pub book : MovesBook d (WriteMay placed) (RisesSealed old.view.book) (WhereCut (WriteAtCut d old.view bytes) old.view new.view) old.view new.view
  pub seq : MovesSeq d old.view new.view
  pub counts : CountsOne placed old.view new.view
  pub running : new.stopped ≡ false

abbrev pub WriteFaultMay : Bool → List Change → Type 0
WriteFaultMay stopped changes = (passes changes ≤ 1) × EachOnce changes × OffersAtEnd stopped changes

pub record WriteFault (d : Numbers) (sector : ℕ) (bytes : List ℕ) (old new : DeviceValue) : Type 0 where
  pub fresh : old.view.seq < 2 ^ 62
  pub fault : Faulted d (WithinWrite d old.view bytes) (slice_set (rows_of d old.view) sector bytes) old new
  pub over : OfferCarries d old.view bytes → FailsOver d old.view bytes new.stopped new.view
  pub erased : WriteErased d old.view bytes new.view
  pub book : MovesBook d (WriteFaultMay new.stopped) (RisesSealed old.view.book) (WhereCut (WriteAtCut d old.view bytes) old.view new.view) old.view new.view
  pub seq : MovesSeq d old.view new.view
  pub counts : SameCounts old.view new.view

-- ---- trim

-- a trim that puts no record makes no change
abbrev pub TrimMay : List Change → Type 0
TrimMay changes = (passes changes ≡ 0) × EachOnce changes × (OffersLast changes ⊎ (length changes ≡ 0))

abbrev pub TrimFaultMay : Bool → List Change → Type 0
TrimFaultMay stopped changes = (passes changes ≡ 0) × EachOnce changes × OffersAtEnd stopped changes

abbrev pub zeros : Numbers → List ℕ
zeros d = replicate d.geometry.sector_bytes 0

pub record Trimmed (d : Numbers) (sector : ℕ) (old new : DeviceValue) : Type 0 where
  pub fresh : old.view.seq < 2 ^ 62
  pub rows : rows_of d new.view ≡ slice_set (rows_of d old.view) sector (zeros d)
  pub leaves : TrimLeaves d old.view new.view sector (holds_bytes (record_of d old.view sector))
  pub calls : Went (trim_calls d old.view sector) (trim_reads d old.view sector) (IsCollect (next_page old.view.book)) old.view.die new.view.die
  pub book : MovesBook d TrimMay (RisesSealed old.view.book) (WhereCut (CollectAtCut old.view.book) old.view new.view) old.view new.view
  pub seq : MovesSeq d old.view new.view
  pub counts : SameCounts old.view new.view
  pub running : new.stopped ≡ false

pub record TrimFault (d : Numbers) (sector : ℕ) (old new : DeviceValue) : Type 0 where
  pub fresh : old.view.seq < 2 ^ 62
  pub fault : Faulted d (WithinTrim d old.view sector) (slice_set (rows_of d old.view) sector (zeros d)) old new
  pub erased : ErasedOrFailed (erase_due old.view.book (next_page old.view.book)) 0 old.view.die new.view.die
  pub book : MovesBook d (TrimFaultMay new.stopped) (RisesSealed old.view.book) (WhereCut (CollectAtCut old.view.book) old.view new.view) old.view new.view
  pub seq : MovesSeq d old.view new.view
  pub counts : SameCounts old.view new.view

-- ---- idle

abbrev pub IdleMay : List Change → Type 0
IdleMay changes = All (λ change. is_idle change ≡ true) changes

abbrev pub RisesTo : ℕ → List Change → ℕ → Type 0
RisesTo k changes rise = rise ≡ k

abbrev pub RisesFinished : DeviceView → DeviceView → List Change → ℕ → Type 0
RisesFinished old new changes rise = Finished old new rise

-- the moves whose two change calls came before the cut
abbrev pub IdleAtCut : ℕ → ℕ → Type 0
IdleAtCut c rise = (2 * rise < c) × (c ≤ 2 * rise + 2)

pub record Idled (d : Numbers) (n k : ℕ) (old new : DeviceValue) : Type 0 where
  pub rows : rows_of d new.view ≡ rows_of d old.view
  pub at_most : k ≤ n
  pub all : k < n → NoMoveLeft (moment_of new.view)
  pub moves : IdleMoves d old.view new.view k
  pub erases : new.view.die.erases ≡ old.view.die.erases
  pub calls : PassedWithin (2 * k) (k * move_reads d.geometry) old.view.die new.view.die
  pub book : MovesBook d IdleMay (RisesTo k) (WhereCut IdleAtCut old.view new.view) old.view new.view
  pub seq : MovesSeq d old.view new.view
  pub counts : SameCounts old.view new.view
  pub running : new.stopped ≡ false

pub record IdleFault (d : Numbers) (n : ℕ) (old new : DeviceValue) : Type 0 where
  pub fault : Faulted d (WithinIdle d n old.view new.view) (rows_of d old.view) old new
  pub moves : IdleUnfinished d n old.view new.view
  pub erases : new.view.die.erases ≡ old.view.die.erases
  pub book : MovesBook d IdleMay (RisesFinished old.view new.view) (WhereCut IdleAtCut old.view new.view) old.view new.view
  pub seq : MovesSeq d old.view new.view
  pub counts : SameCounts old.view new.view

-- ---- read: nothing moves but the die's counts and armed failures

pub record OnlyDie (old new : DeviceValue) : Type 0 where
  pub cells : SameCells old.view.die new.view.die
  pub rest : new ≡ record old { view = record old.view { die = new.view.die } }
