-- Lines as commands of a queue, and what a serve on a session leaves.
use Rattle.std.specs.Prelude.{◌≡◌, ℕ, Bool, false, not, Option, None, Some}
use Rattle.rssd_core.specs.SectorArray.{without_zeros}
use Rattle.rssd_core.specs.DeviceValue.{Numbers, DeviceValue}
use Rattle.rssd_core.specs.declared.device.Placed.TheVariants.{First as PutFirst, Second as PutSecond, Declined as PutDeclined}
use Rattle.rssd_core.specs.declared.device.FtlError.TheVariants.{BadSector, Stopped, DieFault, Spent as NumbersSpent}
use Rattle.rssd_queue.specs.declared.ask.Ask.{Ask}
use Rattle.rssd_queue.specs.declared.ask.Ask.TheVariants as asks
use Rattle.rssd_queue.specs.declared.ask.Tagged.{Tagged}
use Rattle.rssd_queue.specs.declared.serve.Answer.{Answer}
use Rattle.rssd_queue.specs.declared.serve.Answer.TheVariants.{Wrote, Bytes as Row, Trimmed, Refused}
use Rattle.rssd_queue.specs.Waiting.{Waiting}
use Rattle.rssd_queue.specs.Pick.{Takes}
use Rattle.rssd_script.specs.declared.lines.Line.{Line}
use Rattle.rssd_script.specs.declared.lines.Line.TheVariants.{Write, Read, Trim}
use Rattle.rssd_script.specs.declared.replies.Reply.{Reply}
use Rattle.rssd_script.specs.declared.replies.Reply.TheVariants.{First, Second, Declined, Bytes, Done, Range, Off, Fault, Spent}
use Rattle.rssd_run.specs.Steps.{Steps}
use Rattle.rssd_run.specs.Shows.{SessionValue, Holding, Mounted, Closed, Nothing, HasNumbers, StepsSession}

-- what a line asks of a device, if it is a write, a read or a trim
abbrev pub ask_of : Line → Option Ask
ask_of (Write sector bytes) = Some (asks.Write sector bytes)
ask_of (Read sector) = Some (asks.Read sector)
ask_of (Trim sector) = Some (asks.Trim sector)
ask_of line = None

-- the line that asks so
abbrev pub line_of : Ask → Line
line_of (asks.Write sector bytes) = Write sector bytes
line_of (asks.Read sector) = Read sector
line_of (asks.Trim sector) = Trim sector

-- the reply that tells an answer: a row without its zero bytes at the end
abbrev pub reply_to : Answer → Reply
reply_to (Wrote PutFirst) = First
reply_to (Wrote PutSecond) = Second
reply_to (Wrote PutDeclined) = Declined
reply_to (Row bytes) = Bytes (without_zeros bytes)
reply_to Trimmed = Done
reply_to (Refused BadSector) = Range
reply_to (Refused Stopped) = Off
reply_to (Refused DieFault) = Fault
reply_to (Refused NumbersSpent) = Spent

-- whether a session's device runs
abbrev pub is_running : Holding → Bool
is_running (Mounted device) = not device.stopped
is_running (Closed numbers die) = false
is_running Nothing = false

-- the queue was made for the sectors of the session's device
pub record IsQueueOf (queue : Waiting) (holding : Holding) : Type 0 where
  pub numbers : Numbers
  pub has : HasNumbers numbers holding
  pub sectors : queue.sectors ≡ numbers.geometry.sectors
  pub sector_bytes : queue.sector_bytes ≡ numbers.geometry.sector_bytes

-- the next command, which has this tag, was taken out of the queue
pub record TakesOff (tag : ℕ) (queue queue_after : Waiting) : Type 0 where
  pub command : Tagged
  pub taken : Takes queue command queue_after
  pub same_tag : tag ≡ command.tag

-- the next command was taken out of the queue, and is a step of a device that runs, which is answered with its tag
pub record ServesDevice (d : Numbers) (tag : ℕ) (reply : Reply) (queue queue_after : Waiting) (old new : DeviceValue) : Type 0 where
  pub command : Tagged
  pub taken : Takes queue command queue_after
  pub same_tag : tag ≡ command.tag
  pub step : Steps d (line_of command.ask) reply old new

-- the next command was taken out of the queue, and is a step of the session, which is answered with its tag
pub record ServesSession (d : Numbers) (tag : ℕ) (reply : Reply) (queue queue_after : Waiting) (old new : SessionValue) : Type 0 where
  pub command : Tagged
  pub taken : Takes queue command queue_after
  pub same_tag : tag ≡ command.tag
  pub step : StepsSession d (line_of command.ask) reply old new
