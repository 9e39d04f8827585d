-- A set of blocks as words of 64 bits.
use Rattle.std.specs.Prelude.{ℕ, ◌≡◌, ◌/◌, ◌%◌, ◌<◌, ◌==◌, Bool, true, false, if◌then◌else◌, List, slice_index}
use Rattle.std.specs.Int.{bit_at}

-- block b is in the set where bit b % 64 of word b / 64 is 1
abbrev pub has : List ℕ → ℕ → Bool
has words b = bit_at (slice_index words (b / 64)) (b % 64) == 1

-- a block was put in the set or taken out, and any other is in it as before
abbrev pub IsPut : List ℕ → ℕ → Bool → List ℕ → Type 0
IsPut old b present new = (c : ℕ) → has new c ≡ (if c == b then present else has old c)

-- the block is in the set, and no lower one is
abbrev pub IsLowestIn : List ℕ → ℕ → Type 0
IsLowestIn words b = (has words b ≡ true) × ((c : ℕ) → c < b → has words c ≡ false)
