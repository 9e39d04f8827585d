-- How the fields of `Links` hold the lists. List b is a ring through node number `nodes + b`, which is no node, but the end of the list.
use Rattle.std.specs.Prelude.{ℕ, zero, suc, ◌≡◌, ◌+◌, ◌-◌, ◌<◌, ◌^◌, ◌==◌, if◌then◌else◌, Option, Some, None, List, [], ◌∷◌, map, reverse, length, slice_index, slice_index_or}
use Rattle.std.specs.List.{range_with_len}
use Rattle.block_links.specs.Lists.{times, list_at}

-- where next leads, from x up to the stop
abbrev pub walk : List ℕ → ℕ → ℕ → ℕ → List ℕ
walk next stop zero x = []
walk next stop (suc fuel) x = if x == stop then [] else x ∷ walk next stop fuel (slice_index next x)

-- the list of a bucket, by the fields
abbrev pub list_of : List ℕ → ℕ → ℕ → List ℕ
list_of next nodes b = walk next (nodes + b) (nodes + 1) (slice_index next (nodes + b))

-- the list of each bucket
abbrev pub lists_of : List ℕ → ℕ → List (List ℕ)
lists_of next nodes = map (list_of next nodes) (range_with_len 0 (length next - nodes))

-- from x, next leads over the numbers of the list to y
abbrev pub Leads : List ℕ → ℕ → List ℕ → ℕ → Type 0
Leads next x [] y = slice_index next x ≡ y
Leads next x (z ∷ zs) y = (slice_index next x ≡ z) × Leads next z zs y

-- how often a node with this home stands in the list of a bucket
abbrev pub times_at : Option ℕ → ℕ → ℕ
times_at None b = 0
times_at (Some c) b = if c == b then 1 else 0

-- the list that a node is in, and none past the last node
abbrev pub home_of : List (Option ℕ) → ℕ → Option ℕ
home_of home n = slice_index_or home n None

-- the fields hold the lists: each list is a ring through its end, forward and backward, and each node stands where its home says
pub record IsLinked (next prev : List ℕ) (home : List (Option ℕ)) (ls : List (List ℕ)) : Type 0 where
  pub forward : (b : ℕ) → b < length ls → Leads next (length home + b) (list_at ls b) (length home + b)
  pub backward : (b : ℕ) → b < length ls → Leads prev (length home + b) (reverse (list_at ls b)) (length home + b)
  pub stands : (n b : ℕ) → times n (list_at ls b) ≡ times_at (home_of home n) b
  pub next_len : length next ≡ length home + length ls
  pub prev_len : length prev ≡ length home + length ls
  pub few_nodes : length home < 2 ^ 32
  pub few_lists : length ls < 2 ^ 32
