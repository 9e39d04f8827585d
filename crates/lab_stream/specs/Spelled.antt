-- Lines that came one after another, and the bytes that they were.
use Rattle.std.specs.Prelude.{◌≡◌, ◌⊎◌, ℕ, ◌+◌, List, [], ◌∷◌, ◌++◌, length}
use Rattle.rssd_io.specs.Event.{Event, HasEnded, HasFailed, moved, bytes_of, failures}
use Rattle.rssd_io.specs.Faults.{raised}
use Rattle.rssd_script.specs.declared.lines.Line.{Line}
use Rattle.rssd_script.specs.Script.{IsScript, FirstBadLine, script_text}

-- behind the end of the input no byte came
abbrev pub EndsOnce : List Event → Type 0
EndsOnce events = (front back : List Event) → events ≡ front ++ moved [] ∷ back → bytes_of back ≡ []

-- These bytes are the lines, and others are ahead. Each line has its line feed; the last may lack it where the input is at its end
-- behind it.
pub record AreLines (after : List Event) (front : List ℕ) (lines : List Line) (ahead : List ℕ) : Type 0 where
  pub script : IsScript front lines
  pub whole : (front ≡ script_text lines) ⊎ ((ahead ≡ []) × HasEnded after)

-- Between the two logs no take failed, and the bytes that came are those of these lines, and then those ahead.
pub record Streamed (before after : List Event) (lines : List Line) (ahead : List ℕ) : Type 0 where
  pub events : List Event
  pub came : after ≡ before ++ events
  pub served : failures events ≡ 0
  pub front : List ℕ
  pub bytes : bytes_of events ≡ front ++ ahead
  pub spelled : EndsOnce events → AreLines after front lines ahead

-- the same, and behind these lines stands the first that is outside the grammar, which has this number
pub record StreamedBad (before after : List Event) (lines : List Line) (number : ℕ) : Type 0 where
  pub events : List Event
  pub came : after ≡ before ++ events
  pub served : failures events ≡ 0
  pub front : List ℕ
  pub rest : List ℕ
  pub bytes : bytes_of events ≡ front ++ rest
  pub spelled : EndsOnce events → IsScript front lines × (front ≡ script_text lines)
  pub bad : EndsOnce events → FirstBadLine (bytes_of events) (length lines + 1)
  pub number_is : number ≡ raised (length lines)

-- these lines came, and then a take failed
pub record StreamedUpTo (before after : List Event) (lines : List Line) : Type 0 where
  pub between : List Event
  pub ahead : List ℕ
  pub streamed : Streamed before between lines ahead
  pub failed : HasFailed between after
