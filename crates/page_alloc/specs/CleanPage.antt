-- The clean page rule: four branches, of which the first that applies holds.
use Rattle.std.specs.Prelude.{ℕ, ◌≡◌, ◌+◌, ◌*◌, ◌<◌, length}
use Rattle.block_state.specs.declared.state.State.TheVariants.{Active}
use Rattle.block_state.specs.Book.{BookValue, state_at, live_at, IsSpare, NoneActive}
use Rattle.block_state.specs.Victim.{IsVictim}
pub use Rattle.block_state.specs.Lowest.{IsClean, NoneCleanBelow}
use Rattle.page_alloc.specs.declared.next_page.NextPage.{NextPage}
use Rattle.page_alloc.specs.declared.next_page.NextPage.TheVariants.{Page, Take, Wipe, Collect}

-- page branch: where a block is Active, its page number fill
abbrev pub IsPageBranch : BookValue → ℕ → Type 0
IsPageBranch v page = (b : ℕ) × (fill : ℕ) × (state_at v b ≡ Active fill) × (page ≡ b * v.pages + fill)

-- take branch: no block is Active, and this is the lowest Clean one
abbrev pub IsTakeBranch : BookValue → ℕ → Type 0
IsTakeBranch v b = NoneActive v × IsClean v b × NoneCleanBelow v b

-- no block is Active or Clean
abbrev pub NoneOpen : BookValue → Type 0
NoneOpen v = NoneActive v × NoneCleanBelow v (length v.states)

-- wipe branch: no block is Active or Clean, and the victim has no live record
abbrev pub IsWipeBranch : BookValue → ℕ → Type 0
IsWipeBranch v b = NoneOpen v × IsVictim v b × (live_at v b ≡ 0)

-- collect branch: no block is Active or Clean, and the victim has a live record
abbrev pub IsCollectBranch : BookValue → ℕ → ℕ → Type 0
IsCollectBranch v b spare = NoneOpen v × IsVictim v b × (0 < live_at v b) × IsSpare v spare

-- the answer is that of its branch
abbrev pub IsNext : BookValue → NextPage → Type 0
IsNext v (Page page) = IsPageBranch v page
IsNext v (Take b) = IsTakeBranch v b
IsNext v (Wipe b) = IsWipeBranch v b
IsNext v (Collect b spare) = IsCollectBranch v b spare
