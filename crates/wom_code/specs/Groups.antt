-- Chunks side by side in one word.
use Rattle.std.specs.Prelude.{ℕ, ◌+◌, ◌*◌, ◌==◌, Bool, List, map}
use Rattle.std.specs.List.{range_with_len}
use Rattle.std.specs.Int.{bit_at}

-- chunk j of a word of chunks of n bits: its bit c is bit j * n + c of the word
unfoldable pub chunk_of : ℕ → ℕ → ℕ → List Bool
chunk_of n word j = map (λ c. bit_at word (j * n + c) == 1) (range_with_len 0 n)
