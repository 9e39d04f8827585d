-- What the one call of a device for a command leaves, by its answer.
use Rattle.std.specs.Prelude.{◌≡◌, ℕ, ◌^◌, ◌≤◌, true, false, List, [], slice_index_or}
use Rattle.cell_die.specs.Calls.{Passed, ReadFailed}
use Rattle.rssd_core.specs.declared.device.FtlError.TheVariants.{Stopped, DieFault, Spent}
use Rattle.rssd_core.specs.DeviceValue.{Numbers, DeviceValue, rows_of}
use Rattle.rssd_core.specs.Outcomes.{Holds, Wrote, WriteFault, Trimmed, TrimFault, OnlyDie}
use Rattle.rssd_core.specs.Within.{sector_reads}
use Rattle.rssd_queue.specs.declared.ask.Ask.{Ask}
use Rattle.rssd_queue.specs.declared.ask.Ask.TheVariants.{Write, Read, Trim}
use Rattle.rssd_queue.specs.declared.ask.Tagged.{Tagged}
use Rattle.rssd_queue.specs.declared.serve.Answer.{Answer}
use Rattle.rssd_queue.specs.declared.serve.Answer.TheVariants.{Wrote as AnswersWrote, Bytes, Trimmed as AnswersTrimmed, Refused}
use Rattle.rssd_queue.specs.Waiting.{Waiting, IsAsked}
use Rattle.rssd_queue.specs.Pick.{Takes}
use Rattle.rssd_queue.specs.Runs.{Answers}

-- the device is stopped, and nothing changed
abbrev pub WasStopped : DeviceValue → DeviceValue → Type 0
WasStopped old new = (old.stopped ≡ true) × (new ≡ old)

-- the device runs and has no record numbers left, and nothing changed
abbrev pub WasSpent : DeviceValue → DeviceValue → Type 0
WasSpent old new = (old.stopped ≡ false) × (2 ^ 62 ≤ old.view.seq) × (new ≡ old)

abbrev pub CalledWrite : Numbers → ℕ → List ℕ → Answer → DeviceValue → DeviceValue → Type 0
CalledWrite d sector bytes (AnswersWrote placed) old new = (old.stopped ≡ false) × Wrote d sector bytes placed old new
CalledWrite d sector bytes (Refused DieFault) old new = (old.stopped ≡ false) × WriteFault d sector bytes old new
CalledWrite d sector bytes (Refused Spent) old new = WasSpent old new
CalledWrite d sector bytes (Refused Stopped) old new = WasStopped old new
CalledWrite d sector bytes answer old new = ⊥

-- the row was read whole: only the die's counts and armed failures moved
pub record ReadRow (d : Numbers) (sector : ℕ) (bytes : List ℕ) (old new : DeviceValue) : Type 0 where
  pub running : old.stopped ≡ false
  pub row : bytes ≡ slice_index_or (rows_of d old.view) sector []
  pub only_die : OnlyDie old new
  pub calls : Passed 0 (sector_reads d old.view sector) old.view.die new.view.die

-- a read of the die failed
pub record ReadFault (d : Numbers) (sector : ℕ) (old new : DeviceValue) : Type 0 where
  pub running : old.stopped ≡ false
  pub only_die : OnlyDie old new
  pub failed : ReadFailed 0 (sector_reads d old.view sector) old.view.die new.view.die

abbrev pub CalledRead : Numbers → ℕ → Answer → DeviceValue → DeviceValue → Type 0
CalledRead d sector (Bytes bytes) old new = ReadRow d sector bytes old new
CalledRead d sector (Refused DieFault) old new = ReadFault d sector old new
CalledRead d sector (Refused Stopped) old new = WasStopped old new
CalledRead d sector answer old new = ⊥

abbrev pub CalledTrim : Numbers → ℕ → Answer → DeviceValue → DeviceValue → Type 0
CalledTrim d sector AnswersTrimmed old new = (old.stopped ≡ false) × Trimmed d sector old new
CalledTrim d sector (Refused DieFault) old new = (old.stopped ≡ false) × TrimFault d sector old new
CalledTrim d sector (Refused Spent) old new = WasSpent old new
CalledTrim d sector (Refused Stopped) old new = WasStopped old new
CalledTrim d sector answer old new = ⊥

-- by what was asked; an answer that is not in these tables never comes, so none is `BadSector`
abbrev pub Outcome : Numbers → Ask → Answer → DeviceValue → DeviceValue → Type 0
Outcome d (Write sector bytes) answer old new = CalledWrite d sector bytes answer old new
Outcome d (Read sector) answer old new = CalledRead d sector answer old new
Outcome d (Trim sector) answer old new = CalledTrim d sector answer old new

pub record Called (d : Numbers) (ask : Ask) (answer : Answer) (old new : DeviceValue) : Type 0 where
  pub holds : Holds d old new
  pub outcome : Outcome d ask answer old new

-- A serve: the pick was taken out, its one call was made, and it is answered with its tag. On the device's rows it is a step of
-- the sector array.
pub record Serves (d : Numbers) (tag : ℕ) (answer : Answer) (queue queue_after : Waiting) (old new : DeviceValue) : Type 0 where
  pub command : Tagged
  pub taken : Takes queue command queue_after
  pub asked : IsAsked d.geometry.sectors d.geometry.sector_bytes command.ask
  pub same_tag : tag ≡ command.tag
  pub called : Called d command.ask answer old new
  pub array : Answers d.geometry.sector_bytes (rows_of d old.view) command.ask answer (rows_of d new.view)
