-- The victim of a collection and of an idle move: a closed block of least (live count, stamp).
use Rattle.std.specs.Prelude.{ℕ, ◌≡◌, ◌<◌, ◌≤◌, ◌==◌}
use Rattle.std.specs.List.{position_or_len}
use Rattle.block_state.specs.Book.{BookValue, IsClosed, live_at}

-- the stamp of a closed block: its place in the order
abbrev pub stamp : BookValue → ℕ → ℕ
stamp v b = position_or_len (λ c. c == b) v.order

-- of the closed blocks with at least low live records, b has the fewest, and of those with as many the least stamp
pub record IsLeast (v : BookValue) (low b : ℕ) : Type 0 where
  pub closed : IsClosed v b
  pub enough : low ≤ live_at v b
  pub fewest : (c : ℕ) → IsClosed v c → low ≤ live_at v c → live_at v b ≤ live_at v c
  pub oldest : (c : ℕ) → IsClosed v c → live_at v c ≡ live_at v b → stamp v b ≤ stamp v c

-- the victim: the least of all closed blocks
abbrev pub IsVictim : BookValue → ℕ → Type 0
IsVictim v b = IsLeast v 0 b

-- the idle victim: the least of the closed blocks with a live record, where its live records fit the room
abbrev pub IsIdleVictim : BookValue → ℕ → ℕ → Type 0
IsIdleVictim v room b = IsLeast v 1 b × (live_at v b ≤ room)

-- each closed block with at least low live records has more than most of them
abbrev pub NoneFits : BookValue → ℕ → ℕ → Type 0
NoneFits v low most = (b : ℕ) → IsClosed v b → low ≤ live_at v b → most < live_at v b
