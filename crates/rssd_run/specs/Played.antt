-- Lines that are played on a device over any die: what each leaves, by its reply, and what a step then promises.
use Rattle.std.specs.Prelude.{◌≡◌, ◌⊎◌, ◌↔◌, ℕ, ◌^◌, ◌<◌, ◌≤◌, List, [], length, slice_index_or, Some, None}
use Rattle.cell_die.specs.Counts.{Rose}
use Rattle.cell_die.specs.Changes.{SameCells}
use Rattle.cell_die.specs.Calls.{IsQuiet, Passed, ReadFailed}
use Rattle.page_codec.specs.Sound.{IsSound}
use Rattle.reuse_pool.specs.declared.unit.ReuseUnit.{ReuseUnit}
use Rattle.rssd_core.specs.declared.device.Placed.{Placed}
use Rattle.rssd_core.specs.declared.device.Placed.TheVariants.{First as PutFirst, Second as PutSecond, Declined as PutDeclined}
use Rattle.rssd_core.specs.SectorArray.{filled_up, without_zeros}
use Rattle.rssd_core.specs.Rules.{offer_of}
use Rattle.rssd_core.specs.DeviceValue.{Numbers, DeviceValue, rows_of}
use Rattle.rssd_core.specs.Moves.{MovesBook, MovesSeq}
use Rattle.rssd_core.specs.Outcomes.{Holds, Wrote, WriteFault, Trimmed, TrimFault, Idled, IdleFault, OnlyDie, TrueWhileRunning}
use Rattle.rssd_core.specs.Within.{sector_reads}
use Rattle.rssd_core.specs.Writes.{OfferCarries, OfferDeclines, OverUnit, OnCleanPage}
use Rattle.rssd_script.specs.declared.lines.Line.{Line}
use Rattle.rssd_script.specs.declared.lines.Line.TheVariants.{Write, Read, Trim, Idle}
use Rattle.rssd_script.specs.declared.replies.Reply.{Reply}
use Rattle.rssd_script.specs.declared.replies.Reply.TheVariants.{First, Second, Declined, Bytes, Done, Moves, Range, Long, Fault, Spent}
use Rattle.rssd_run.specs.ArrayWithCuts.{Row}
use Rattle.rssd_run.specs.View.{View, Event, StandsFor, faults, IsCommand}
use Rattle.rssd_run.specs.Held.{Tallies}
use Rattle.rssd_run.specs.Moves.{MayChange, RisesBy, MovesRecords}
use Rattle.rssd_run.specs.Placing.{IsTried}
use Rattle.rssd_run.specs.Leaves.{Leaves}
use Rattle.rssd_run.specs.Step.{OffExactly, KeepsDie, RefusedExactly, IdleAnswer, IsRefusal, TalliesRise, TrueWhileOn}
use Rattle.rssd_run.specs.Shows.{Mounted, ShowsHolding}

-- a line that is played on a device
abbrev pub IsPlayed : Line → Type 0
IsPlayed (Write sector bytes) = Unit {0}
IsPlayed (Read sector) = Unit {0}
IsPlayed (Trim sector) = Unit {0}
IsPlayed (Idle n) = Unit {0}
IsPlayed _ = ⊥

-- ---- what a line on a device that runs leaves, by its reply

pub record WroteSo (d : Numbers) (sector : ℕ) (bytes : List ℕ) (placed : Placed) (old new : DeviceValue) : Type 0 where
  pub in_range : sector < d.geometry.sectors
  pub fits : length bytes ≤ d.geometry.sector_bytes
  pub holds : Holds d old new
  pub wrote : Wrote d sector (filled_up d.geometry.sector_bytes bytes) placed old new

pub record WriteFailed (d : Numbers) (sector : ℕ) (bytes : List ℕ) (old new : DeviceValue) : Type 0 where
  pub in_range : sector < d.geometry.sectors
  pub fits : length bytes ≤ d.geometry.sector_bytes
  pub holds : Holds d old new
  pub fault : WriteFault d sector (filled_up d.geometry.sector_bytes bytes) old new

abbrev pub AnsweredWrite : Numbers → ℕ → List ℕ → Reply → DeviceValue → DeviceValue → Type 0
AnsweredWrite d sector bytes First old new = WroteSo d sector bytes PutFirst old new
AnsweredWrite d sector bytes Second old new = WroteSo d sector bytes PutSecond old new
AnsweredWrite d sector bytes Declined old new = WroteSo d sector bytes PutDeclined old new
AnsweredWrite d sector bytes Fault old new = WriteFailed d sector bytes old new
AnsweredWrite d sector bytes Range old new = (d.geometry.sectors ≤ sector) × (new ≡ old)
AnsweredWrite d sector bytes Long old new = (sector < d.geometry.sectors) × (d.geometry.sector_bytes < length bytes) × (new ≡ old)
AnsweredWrite d sector bytes Spent old new = (sector < d.geometry.sectors) × (length bytes ≤ d.geometry.sector_bytes) × (2 ^ 62 ≤ old.view.seq) × (new ≡ old)
AnsweredWrite d sector bytes _ old new = ⊥

pub record ReadSo (d : Numbers) (sector : ℕ) (bytes : List ℕ) (old new : DeviceValue) : Type 0 where
  pub in_range : sector < d.geometry.sectors
  pub holds : Holds d old new
  pub only_die : OnlyDie old new
  pub calls : Passed 0 (sector_reads d old.view sector) old.view.die new.view.die
  pub row : bytes ≡ without_zeros (slice_index_or (rows_of d old.view) sector [])

pub record ReadWithFault (d : Numbers) (sector : ℕ) (old new : DeviceValue) : Type 0 where
  pub in_range : sector < d.geometry.sectors
  pub holds : Holds d old new
  pub only_die : OnlyDie old new
  pub failed : ReadFailed 0 (sector_reads d old.view sector) old.view.die new.view.die

abbrev pub AnsweredRead : Numbers → ℕ → Reply → DeviceValue → DeviceValue → Type 0
AnsweredRead d sector (Bytes bytes) old new = ReadSo d sector bytes old new
AnsweredRead d sector Fault old new = ReadWithFault d sector old new
AnsweredRead d sector Range old new = (d.geometry.sectors ≤ sector) × (new ≡ old)
AnsweredRead d sector _ old new = ⊥

pub record TrimmedSo (d : Numbers) (sector : ℕ) (old new : DeviceValue) : Type 0 where
  pub in_range : sector < d.geometry.sectors
  pub holds : Holds d old new
  pub trimmed : Trimmed d sector old new

pub record TrimFailed (d : Numbers) (sector : ℕ) (old new : DeviceValue) : Type 0 where
  pub in_range : sector < d.geometry.sectors
  pub holds : Holds d old new
  pub fault : TrimFault d sector old new

abbrev pub AnsweredTrim : Numbers → ℕ → Reply → DeviceValue → DeviceValue → Type 0
AnsweredTrim d sector Done old new = TrimmedSo d sector old new
AnsweredTrim d sector Fault old new = TrimFailed d sector old new
AnsweredTrim d sector Range old new = (d.geometry.sectors ≤ sector) × (new ≡ old)
AnsweredTrim d sector Spent old new = (sector < d.geometry.sectors) × (2 ^ 62 ≤ old.view.seq) × (new ≡ old)
AnsweredTrim d sector _ old new = ⊥

abbrev pub AnsweredIdle : Numbers → ℕ → Reply → DeviceValue → DeviceValue → Type 0
AnsweredIdle d n (Moves k) old new = Holds d old new × Idled d n k old new
AnsweredIdle d n Fault old new = Holds d old new × IdleFault d n old new
AnsweredIdle d n _ old new = ⊥

abbrev pub Answered : Numbers → Line → Reply → DeviceValue → DeviceValue → Type 0
Answered d (Write sector bytes) reply old new = AnsweredWrite d sector bytes reply old new
Answered d (Read sector) reply old new = AnsweredRead d sector reply old new
Answered d (Trim sector) reply old new = AnsweredTrim d sector reply old new
Answered d (Idle n) reply old new = AnsweredIdle d n reply old new
Answered d _ reply old new = ⊥

-- ---- one line as a step, over a die that need not tell its power: that no call failed is said by the reply

pub record PlacedSo (d : Numbers) (e : Event) (sector : ℕ) (row : List ℕ) : Type 0 where
  pub second : (e.reply ≡ Second) ↔ ((e.reply ≡ Fault → ⊥) × OfferCarries d e.before.device row)
  pub declined : (e.reply ≡ Declined) ↔ ((e.reply ≡ Fault → ⊥) × OfferDeclines d e.before.device row)
  pub first : (e.reply ≡ First) ↔ ((e.reply ≡ Fault → ⊥) × (offer_of e.before.device.book ≡ None))
  pub over_unit : e.reply ≡ Second → (unit : ReuseUnit) → offer_of e.before.device.book ≡ Some unit → OverUnit d e.before.device e.after.device sector row unit
  pub on_clean : (e.reply ≡ Declined) ⊎ (e.reply ≡ First) → OnCleanPage d e.before.device e.after.device sector row 1

-- the book moves by uses of rules, the next seq as they draw it, and the tally by what they moved
pub record PlayedBook (d : Numbers) (e : Event) : Type 0 where
  pub book : MovesBook d (MayChange e.after.array e.line e.reply) (RisesBy e e.line e.reply) (λ rise. Unit {0}) e.before.device e.after.device
  pub seq : MovesSeq d e.before.device e.after.device
  pub records : MovesRecords d e e.line e.reply

-- the conditions of a step but those of armed failures
pub record IsPlayedStep (d : Numbers) (e : Event) : Type 0 where
  pub row : Row d.geometry.sector_bytes e.before.array e.line e.reply e.after.array
  pub stands_before : StandsFor d e.before
  pub stands_after : StandsFor d e.after
  pub off : e.reply ≡ Fault → IsCommand e.line → OffExactly e
  pub keeps : KeepsDie d e.before.device.die e.after.device.die
  pub placed : (sector : ℕ) (bytes : List ℕ) → IsTried d e sector bytes → PlacedSo d e sector (filled_up d.geometry.sector_bytes bytes)
  pub cause : e.reply ≡ Fault → Rose (faults e.before.device.die) (faults e.after.device.die)
  pub refused : RefusedExactly d e
  pub idle : IdleAnswer e e.line e.reply
  pub stays : IsRefusal e.reply ⊎ (IsCommand e.line → ⊥) → SameCells e.before.device.die e.after.device.die
  pub tallies : TalliesRise e
  pub true_book : TrueWhileOn d e.after
  pub moves : PlayedBook d e
  pub leaves : Leaves d e e.line e.reply

-- From each view that the device stood for, over sound cells and where its book was true, the line and its reply are such a
-- step to a view that it stands for.
abbrev pub Plays : Numbers → Line → Reply → DeviceValue → DeviceValue → Type 0
Plays d line reply old new =
    (base : Tallies) (before : View) → ShowsHolding d base (Mounted old) before → IsSound d.geometry old.view.die.cells → TrueWhileRunning d old
    → (after : View) × ShowsHolding d base (Mounted new) after × IsPlayedStep d (record { line = line; reply = reply; before = before; after = after })

-- On a die that tells that it has power and that nothing is armed, no line answers `fault`, and it tells the same afterwards.
pub record PlaysQuiet (reply : Reply) (old new : DeviceValue) : Type 0 where
  pub no_fault : IsQuiet old.view.die → reply ≡ Fault → ⊥
  pub stays : IsQuiet old.view.die → IsQuiet new.view.die
