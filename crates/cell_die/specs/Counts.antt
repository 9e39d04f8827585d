-- Counts that stand still at 2^64 - 1.
use Rattle.std.specs.Prelude.{ℕ, ◌+◌, ◌^◌, ◌<◌, ◌≤◌, ◌-◌, min, List, sum}

-- the count, one higher
abbrev pub raised : ℕ → ℕ
raised count = min (count + 1) (2 ^ 64 - 1)

-- the sum of two counts
abbrev pub count_sum : ℕ → ℕ → ℕ
count_sum a b = min (a + b) (2 ^ 64 - 1)

-- the sum of all counts of a list
abbrev pub sum_of : List ℕ → ℕ
sum_of counts = min (sum counts) (2 ^ 64 - 1)

-- the count is higher by one or more
abbrev pub Rose : ℕ → ℕ → Type 0
Rose before now = raised before ≤ now

-- the opposite
abbrev pub Stayed : ℕ → ℕ → Type 0
Stayed before now = now < raised before
