-- The change calls and reads of a call of a device.
use Rattle.std.specs.Prelude.{◌≡◌, ◌⊎◌, ℕ, ◌+◌, ◌*◌, ◌≤◌, Bool, false, not, if◌then◌else◌, List, Option, Some, None}
use Rattle.cell_die.specs.DieState.{DieState}
use Rattle.cell_die.specs.Calls.{Passed, PassedWithin}
use Rattle.page_alloc.specs.declared.next_page.NextPage.{NextPage}
use Rattle.page_alloc.specs.declared.next_page.NextPage.TheVariants.{Collect}
use Rattle.page_codec.specs.Records as records
use Rattle.page_codec.specs.Sectors.{says_zeros}
use Rattle.collector.specs.Moves.{get_reads}
use Rattle.rssd_core.specs.declared.device.Placed.{Placed}
use Rattle.rssd_core.specs.declared.device.Placed.TheVariants.{First, Second, Declined}
use Rattle.rssd_core.specs.Rules.{next_page, offer_of}
use Rattle.rssd_core.specs.Calls.{clean_calls, collection_reads, offer_reads, move_reads}
use Rattle.rssd_core.specs.DeviceValue.{Numbers, DeviceView}
use Rattle.rssd_core.specs.Moves.{ChangesRose, ChangesStayed}
use Rattle.rssd_core.specs.Writes.{OfferCarries}

-- a victim is to be collected: the reads are bounded only
abbrev pub IsCollect : NextPage → Type 0
IsCollect (Collect victim spare) = Unit {0}
IsCollect _ = ⊥

-- whether a record holds bytes
abbrev pub holds_bytes : Option records.Placed → Bool
holds_bytes None = false
holds_bytes (Some placed) = not (says_zeros placed.header)

-- the live record of a sector
abbrev pub record_of : Numbers → DeviceView → ℕ → Option records.Placed
record_of d view sector = records.live_record d.geometry view.die.cells sector

-- the reads of a record on a clean page
abbrev pub clean_reads : Numbers → DeviceView → ℕ
clean_reads d view = collection_reads d.geometry view.die.cells (next_page view.book)

-- the change calls of a write that was answered so
abbrev pub write_calls : Numbers → DeviceView → Placed → ℕ
write_calls d view First = clean_calls view.book
write_calls d view Second = d.geometry.span + 1
write_calls d view Declined = clean_calls view.book

-- its reads
abbrev pub write_reads : Numbers → DeviceView → Placed → ℕ
write_reads d view First = clean_reads d view
write_reads d view Second = d.geometry.span
write_reads d view Declined = d.geometry.span + clean_reads d view

-- where they are bounded only
abbrev pub WriteBounded : DeviceView → Placed → Type 0
WriteBounded view First = IsCollect (next_page view.book)
WriteBounded view Second = ⊥
WriteBounded view Declined = IsCollect (next_page view.book)

-- a trim makes no call for a sector that holds no bytes
abbrev pub trim_calls : Numbers → DeviceView → ℕ → ℕ
trim_calls d view sector = if holds_bytes (record_of d view sector) then clean_calls view.book else 0

abbrev pub trim_reads : Numbers → DeviceView → ℕ → ℕ
trim_reads d view sector = if holds_bytes (record_of d view sector) then clean_reads d view else 0

-- the reads of a read
abbrev pub sector_reads : Numbers → DeviceView → ℕ → ℕ
sector_reads d view sector = get_reads d.geometry (record_of d view sector)

-- No call of the die failed: so many change calls, and so many reads, or at most so many where they are bounded only.
pub record Went (changes reads : ℕ) (Bounded : Type 0) (old new : DieState) : Type 0 where
  pub within : PassedWithin changes reads old new
  pub exact : (Bounded → ⊥) → Passed changes reads old new

-- at most the calls that a write would make where none fails
pub record WithinWrite (d : Numbers) (old : DeviceView) (bytes : List ℕ) (changes reads : ℕ) : Type 0 where
  pub over : OfferCarries d old bytes → (changes ≤ d.geometry.span + 1) × (reads ≤ d.geometry.span)
  pub clean : (OfferCarries d old bytes → ⊥) → (changes ≤ clean_calls old.book) × (reads ≤ offer_reads d.geometry (offer_of old.book) + clean_reads d old)

-- at most those of a trim
pub record WithinTrim (d : Numbers) (old : DeviceView) (sector changes reads : ℕ) : Type 0 where
  pub changes_at_most : changes ≤ trim_calls d old sector
  pub reads_at_most : reads ≤ trim_reads d old sector

-- the moves that an idle call had finished when a call of its die failed; one that a change call ended had drawn its seq
abbrev pub Finished : DeviceView → DeviceView → ℕ → Type 0
Finished old new moves = ((new.seq ≡ old.seq + moves) × ChangesStayed old new) ⊎ ((new.seq ≡ old.seq + moves + 1) × ChangesRose old new)

-- at most the calls of the finished moves of an idle call and of one more
pub record WithinIdle (d : Numbers) (n : ℕ) (old new : DeviceView) (changes reads : ℕ) : Type 0 where
  pub moves : ℕ
  pub some_left : moves + 1 ≤ n
  pub finished : Finished old new moves
  pub changes_at_most : changes ≤ 2 * (moves + 1)
  pub reads_at_most : reads ≤ (moves + 1) * move_reads d.geometry
