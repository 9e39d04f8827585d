-- What a sink that gathers pieces hands on.
use Rattle.std.specs.Prelude.{◌≡◌, ◌<◌, ℕ, List, ◌++◌, take}
use Rattle.rssd_io.specs.Event.{Event, bytes_of, failures}

-- What was handed on below and what waits now are what waited and the piece, in their order, and no call below failed.
pub record HandsThrough (old new : List Event) (waited waits piece : List ℕ) : Type 0 where
  pub events : List Event
  pub came : new ≡ old ++ events
  pub served : failures events ≡ 0
  pub order : bytes_of events ++ waits ≡ waited ++ piece

-- Only the first bytes of what was given to hand on, some, all or none, were handed on below, where a call failed.
pub record HandsFront (old new : List Event) (given : List ℕ) : Type 0 where
  pub events : List Event
  pub came : new ≡ old ++ events
  pub failed : 0 < failures events
  pub n : ℕ
  pub front : bytes_of events ≡ take n given
