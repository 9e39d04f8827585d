-- What was taken of a source.
use Rattle.std.specs.Prelude.{◌≡◌, ℕ, List, ◌++◌, length}
use Rattle.rssd_io.specs.Event.{Event, bytes_of, HasEnded, EndsWith, failed}
use Rattle.rssd_disk.specs.declared.serving.Ended.{Ended}
use Rattle.rssd_disk.specs.declared.serving.Ended.TheVariants.{Cut, ReadFault}

-- these bytes were taken, in their order
pub record Takes (old new : List Event) (bytes : List ℕ) : Type 0 where
  pub events : List Event
  pub came : new ≡ old ++ events
  pub bytes_are : bytes_of events ≡ bytes

-- so many bytes were taken
pub record Skips (count : ℕ) (old new : List Event) : Type 0 where
  pub bytes : List ℕ
  pub long : length bytes ≡ count
  pub taken : Takes old new bytes

-- why less was taken than is wanted: the source is at its end, or a take failed
abbrev pub HasStopped : Ended → List Event → Type 0
HasStopped Cut log = HasEnded log
HasStopped ReadFault log = EndsWith failed log
HasStopped _ log = ⊥
