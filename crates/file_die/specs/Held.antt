-- What a mirror keeps.
use Rattle.std.specs.Prelude.{◌≡◌, ℕ, ◌+◌, ◌≤◌, List, ◌++◌, length, take, drop, Option, None, Some}

-- the bytes from this place on are replaced, and there is room for them
pub record Replaces (place : ℕ) (bytes old new : List ℕ) : Type 0 where
  pub room : place + length bytes ≤ length old
  pub replaced : new ≡ take place old ++ bytes ++ drop (place + length bytes) old

-- the same where the bytes are told; a mirror that tells them goes on telling
abbrev pub Puts : ℕ → List ℕ → Option (List ℕ) → Option (List ℕ) → Type 0
Puts place bytes None new = Unit {0}
Puts place bytes (Some old) None = ⊥
Puts place bytes (Some old) (Some new) = Replaces place bytes old new
