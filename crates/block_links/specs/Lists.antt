-- What a contract sees of `Links`: lists of node numbers.
use Rattle.std.specs.Prelude.{ℕ, ◌≡◌, ◌+◌, ◌<◌, ◌≤◌, ◌==◌, not, if◌then◌else◌, List, [], ◌∷◌, ◌++◌, map, length, slice_set, slice_index, slice_index_or}
use Rattle.std.specs.List.{filter}

-- how often v stands in the list
abbrev pub times : ℕ → List ℕ → ℕ
times v [] = 0
times v (x ∷ xs) = (if x == v then 1 else 0) + times v xs

-- the list without v
abbrev pub without : ℕ → List ℕ → List ℕ
without v = filter (λ x. not (x == v))

-- lists of nodes below a number
pub record Lists : Type 0 where
  pub nodes : ℕ
  pub lists : List (List ℕ)

-- the list of a bucket, and the empty list past the last bucket
abbrev pub list_at : List (List ℕ) → ℕ → List ℕ
list_at ls b = slice_index_or ls b []

-- the lists with the node at the back of one of them
abbrev pub appended : List (List ℕ) → ℕ → ℕ → List (List ℕ)
appended ls b n = slice_set ls b (list_at ls b ++ n ∷ [])

-- the lists without the node
abbrev pub removed : List (List ℕ) → ℕ → List (List ℕ)
removed ls n = map (without n) ls

-- the node stands in no list
abbrev pub IsFree : List (List ℕ) → ℕ → Type 0
IsFree ls n = (b : ℕ) → times n (list_at ls b) ≡ 0

-- the node stands in one of the lists
abbrev pub IsListed : List (List ℕ) → ℕ → Type 0
IsListed ls n = (b : ℕ) × (0 < times n (list_at ls b))

-- the node is the first of a list
abbrev pub IsFront : List ℕ → ℕ → Type 0
IsFront xs n = (0 < length xs) × (slice_index xs 0 ≡ n)

-- the node stands once in the list of this bucket
abbrev pub IsHome : List (List ℕ) → ℕ → ℕ → Type 0
IsHome ls n b = (b < length ls) × (times n (list_at ls b) ≡ 1)

-- no node stands twice, in one list or in two, and each is below the number of nodes
pub record IsValid (v : Lists) : Type 0 where
  pub once : (n b : ℕ) → times n (list_at v.lists b) ≤ 1
  pub one_list : (n b c : ℕ) → 0 < times n (list_at v.lists b) → 0 < times n (list_at v.lists c) → b ≡ c
  pub in_range : (n b : ℕ) → 0 < times n (list_at v.lists b) → n < v.nodes
