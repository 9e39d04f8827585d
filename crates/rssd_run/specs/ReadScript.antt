-- What reading a script answers, by the bytes that were taken.
use Rattle.std.specs.Prelude.{◌≡◌, ℕ, ◌+◌, ◌<◌, ◌≤◌, List, ◌++◌, length}
use Rattle.rssd_io.specs.Event.{Event, HasEnded, bytes_of, failures, since}
use Rattle.rssd_script.specs.declared.lines.Line.{Line}
use Rattle.rssd_script.specs.declared.reader.ScriptReader.{ScriptReader}
use Rattle.rssd_script.specs.declared.error.ScriptError.{ScriptError}
use Rattle.rssd_script.specs.declared.error.ScriptError.TheVariants.{TooLong, BadLine, OutOfMemory}
use Rattle.rssd_script.specs.Script.{FirstBadLine}
use Rattle.rssd_script.specs.Scripts.{Reads, most_bytes}
use Rattle.rssd_script.specs.Readers.{HasRead}
use Rattle.rssd_run.specs.declared.run.script.ReadError.{ReadError}
use Rattle.rssd_run.specs.declared.run.script.ReadError.TheVariants.{Fault, Refused}

-- No take failed, the last one found the end of the input, and what was taken is a script of these lines.
pub record ReadsAll (old new : List Event) (lines : List Line) : Type 0 where
  pub served : failures (since old new) ≡ 0
  pub ended : HasEnded (since old new)
  pub reads : Reads (bytes_of (since old new)) lines

-- what was taken is too long, or it is all of the input and has this first bad line; want of memory is free
abbrev pub IsNoScript : ScriptError → List Event → Type 0
IsNoScript TooLong events = most_bytes < length (bytes_of events)
IsNoScript (BadLine k) events = (length (bytes_of events) ≤ most_bytes) × FirstBadLine (bytes_of events) k × HasEnded events
IsNoScript OutOfMemory events = Unit {0}

-- a take failed; or none did, and what was taken is no script
abbrev pub RefusesRead : List Event → List Event → ReadError → Type 0
RefusesRead old new Fault = failures (since old new) ≡ 1
RefusesRead old new (Refused why) = (failures (since old new) ≡ 0) × IsNoScript why (since old new)

-- what was on record stays, and of the bytes of a script at most one past the most were taken
pub record TakesScript (old new : List Event) : Type 0 where
  pub grew : new ≡ old ++ since old new
  pub most : length (bytes_of (since old new)) ≤ most_bytes + 1

-- the reader has read what was taken: all of the input, or more than the most bytes of a script
pub record HasReadAll (old new : List Event) (reader : ScriptReader) : Type 0 where
  pub read : HasRead reader (bytes_of (since old new))
  pub served : failures (since old new) ≡ 0
  pub whole : length (bytes_of (since old new)) ≤ most_bytes → HasEnded (since old new)

-- the reader has read what was taken, and so much room is left
pub record HasReadSo (old new : List Event) (reader : ScriptReader) (room : ℕ) : Type 0 where
  pub events : List Event
  pub came : new ≡ old ++ events
  pub served : failures events ≡ 0
  pub read : HasRead reader (bytes_of events)
  pub counted : length (bytes_of events) + room ≡ most_bytes + 1
