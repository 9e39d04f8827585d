-- Pieces that a sink was given, each by one give, and that were handed on.
use Rattle.std.specs.Prelude.{◌≡◌, ◌⊎◌, ℕ, ◌<◌, List, [], ◌∷◌, ◌++◌, length, take, map, get_or}
use Rattle.rssd_io.specs.Event.{Event, moved, flushed, failed}

-- each piece moved, in order
abbrev pub all_given : List (List ℕ) → List Event
all_given pieces = map moved pieces

-- the pieces were given, each by one give
abbrev pub Gives : List (List ℕ) → List Event → List Event → Type 0
Gives pieces old new = new ≡ old ++ all_given pieces

-- the pieces were given, each by one give, and then what waited was handed on
abbrev pub HandsOn : List (List ℕ) → List Event → List Event → Type 0
HandsOn pieces old new = new ≡ old ++ (all_given pieces ++ flushed ∷ [])

-- the pieces before one were given, and a front of that one, and then the give failed
pub record StopsAt (pieces : List (List ℕ)) (old new : List Event) : Type 0 where
  pub before : ℕ
  pub inside : before < length pieces
  pub n : ℕ
  pub log : new ≡ old ++ (all_given (take before pieces) ++ moved (take n (get_or pieces before [])) ∷ failed ∷ [])

-- all pieces were given, and then handing on what waited failed
abbrev pub StopsAtEnd : List (List ℕ) → List Event → List Event → Type 0
StopsAtEnd pieces old new = new ≡ old ++ (all_given pieces ++ failed ∷ [])

-- a give of the pieces failed, or what waited was not handed on
abbrev pub StopsIn : List (List ℕ) → List Event → List Event → Type 0
StopsIn pieces old new = StopsAt pieces old new ⊎ StopsAtEnd pieces old new
