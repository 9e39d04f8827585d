-- The plain code: the message in the first k cells.
use Rattle.std.specs.Prelude.{◌≡◌, ℕ, ◌-◌, ◌≤◌, Bool, false, List, ◌++◌, length, take, drop, replicate}
use Rattle.std.proofs.Common.{arith}
use Rattle.std.proofs.lemmas.List.{length-append, length-replicate, take_at}
use Rattle.wom_code.specs.Tests.{is_same}

-- whether the new cells are the message and the old cells from k on
abbrev pub plain_gives : ℕ → List Bool → List Bool → List Bool → Bool
plain_gives k old message new = is_same new (message ++ drop k old)

-- each message stands in the first of some cells
pub takes_front : (k n : ℕ) (message : List Bool) → length message ≡ k → k ≤ n → (cells : List Bool) × (length cells ≡ n) × (take k cells ≡ message)
takes_front k n message len fits =
    (message ++ replicate (n - k) false, omega (arith, length-append message (replicate (n - k) false), length-replicate (n - k) false), take_at message (replicate (n - k) false) k len)
