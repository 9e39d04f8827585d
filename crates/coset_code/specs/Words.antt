-- Columns from the words of a seed.
use Rattle.std.specs.Prelude.{ℕ, zero, suc, ◌+◌, ◌*◌, ◌^◌, List, map}
use Rattle.std.specs.List.{range_with_len}
use Rattle.rand_xoshiro.specs.SplitMix64.{mix_u64, next_state}

-- the generator's state once n words were drawn
unfoldable pub state_after : ℕ → ℕ → ℕ
state_after seed zero = seed
state_after seed (suc n) = next_state (state_after seed n)

-- word n of the seed
abbrev pub word_at : ℕ → ℕ → ℕ
word_at seed n = (mix_u64 (state_after seed n)).0

-- column j has word 2 j as its low and word 2 j + 1 as its high half
unfoldable pub column_at : ℕ → ℕ → ℕ
column_at seed j = word_at seed (2 * j + 1) * 2 ^ 64 + word_at seed (2 * j)

abbrev pub columns_from : ℕ → ℕ → List ℕ
columns_from seed count = map (column_at seed) (range_with_len 0 count)
