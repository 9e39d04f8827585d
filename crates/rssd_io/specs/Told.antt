-- Beside what their calls did: the bytes that a source has left, and those that a sink holds, where they tell them.
use Rattle.std.specs.Prelude.{◌≡◌, ℕ, List, ◌++◌, Option}
use Rattle.std.specs.Io.KnownBytes.{Consumes, Appends}
use Rattle.rssd_io.specs.Event.{Event, bytes_of}

-- What was on record stays; and what a source had left is what was taken since, and then what it has left now.
pub record TellsLeft (before after : Option (List ℕ)) (old new : List Event) : Type 0 where
  pub events : List Event
  pub came : new ≡ old ++ events
  pub left : Consumes before after (bytes_of events)

-- What was on record stays; and what a sink holds is what it held, and then what it was given since.
pub record TellsHeld (before after : Option (List ℕ)) (old new : List Event) : Type 0 where
  pub events : List Event
  pub came : new ≡ old ++ events
  pub held : Appends before after (bytes_of events)
