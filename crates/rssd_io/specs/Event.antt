-- What the calls of a source or a sink did, in their order.
use Rattle.std.specs.Prelude.{◌≡◌, ℕ, ◌+◌, ◌<◌, List, [], ◌∷◌, ◌++◌, length, take, drop, flat_map, Option, None, Some, Result, Ok, Err}

-- Some bytes moved; or what waited was handed on; or the call failed.
abbrev pub Event : Type 0
Event = Option (Option (List ℕ))

abbrev pub moved : List ℕ → Event
moved bytes = Some (Some bytes)

abbrev pub flushed : Event
flushed = Some None

abbrev pub failed : Event
failed = None

-- the bytes that a call moved
abbrev pub bytes_in : Event → List ℕ
bytes_in None = []
bytes_in (Some None) = []
bytes_in (Some (Some bytes)) = bytes

-- the bytes that calls moved
abbrev pub bytes_of : List Event → List ℕ
bytes_of events = flat_map bytes_in events

-- how many calls failed
abbrev pub failures : List Event → ℕ
failures [] = 0
failures (None ∷ events) = failures events + 1
failures (Some moves ∷ events) = failures events

-- this was the last event
abbrev pub EndsWith : Event → List Event → Type 0
EndsWith last [] = ⊥
EndsWith last (event ∷ []) = event ≡ last
EndsWith last (event ∷ next ∷ events) = EndsWith last (next ∷ events)

-- the last call moved nothing and did not fail: the source is at the end of its input
abbrev pub HasEnded : List Event → Type 0
HasEnded events = EndsWith (moved []) events

-- the last call handed on what waited: nothing waits in the sink
abbrev pub HasFlushed : List Event → Type 0
HasFlushed events = EndsWith flushed events

-- the events that came after the old ones
abbrev pub since : List Event → List Event → List Event
since old new = drop (length old) new

-- what was on record stays, and more may come after it
abbrev pub Grows : List Event → List Event → Type 0
Grows old new = (events : List Event) × (new ≡ old ++ events)

-- a call failed since
abbrev pub HasFailed : List Event → List Event → Type 0
HasFailed old new = 0 < failures (since old new)

-- one call came, which did this
abbrev pub Adds : Event → List Event → List Event → Type 0
Adds event old new = new ≡ old ++ event ∷ []

-- what a take of a source did
abbrev pub took : {E : Type 0} → Result ℕ E → List ℕ → Event
took (Ok n) into = moved (take n into)
took (Err e) into = failed

-- a give of a sink moved the piece, or a front of it and failed
abbrev pub Gave : {E : Type 0} → Result (Unit {0}) E → List ℕ → List Event → List Event → Type 0
Gave (Ok x) piece old new = new ≡ old ++ moved piece ∷ []
Gave (Err e) piece old new = (n : ℕ) × (new ≡ old ++ moved (take n piece) ∷ failed ∷ [])

-- a flush handed on what waited, or failed
abbrev pub Flushed : {E : Type 0} → Result (Unit {0}) E → List Event → List Event → Type 0
Flushed (Ok x) old new = new ≡ old ++ flushed ∷ []
Flushed (Err e) old new = new ≡ old ++ failed ∷ []
