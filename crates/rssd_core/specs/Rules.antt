-- The rules of a write as functions of the book: what `page_alloc` and `reuse_pool` answer is determined by them.
use Rattle.std.specs.Prelude.{ℕ, ◌+◌, ◌-◌, ◌*◌, Bool, ◌==◌, nat_lt, if◌then◌else◌, position, Option, Some, None}
use Rattle.std.specs.List.{reduce}
use Rattle.block_state.specs.declared.state.State.{State}
use Rattle.block_state.specs.declared.state.State.TheVariants.{Recycled}
use Rattle.block_state.specs.State.{is_active, is_spare}
use Rattle.block_state.specs.Book.{BookValue, state_at, live_at}
use Rattle.page_alloc.specs.declared.next_page.NextPage.{NextPage}
use Rattle.page_alloc.specs.declared.next_page.NextPage.TheVariants.{Page, Take, Wipe, Collect}
use Rattle.reuse_pool.specs.declared.unit.ReuseUnit.{ReuseUnit}
use Rattle.reuse_pool.specs.Offer.{is_recycled}
use Rattle.mount_scan.specs.Settled.{is_clean}
use Rattle.collector.specs.Effects.{fill_of}

-- the lowest-numbered block in such a state
abbrev pub first_block : (State → Bool) → BookValue → Option ℕ
first_block test v = position test v.states

-- of two blocks the second only where it has fewer live records
abbrev pub fewer : BookValue → ℕ → ℕ → ℕ
fewer v a b = if nat_lt (live_at v b) (live_at v a) then b else a

-- the victim: of the closed blocks, in their order, the first with the fewest live records
abbrev pub victim_of : BookValue → Option ℕ
victim_of v = reduce (fewer v) v.order

-- the pages that an Active block has left
abbrev pub room_in : BookValue → Option ℕ → ℕ
room_in v None = 0
room_in v (Some block) = v.pages - fill_of (state_at v block)

-- the room for idle moves
abbrev pub room_left : BookValue → ℕ
room_left v = room_in v (first_block is_active v)

-- a victim without a live record is wiped, and any other is collected into the Spare; a true book has both blocks here
abbrev pub from_victim : BookValue → Option ℕ → Option ℕ → NextPage
from_victim v (Some victim) (Some spare) = if live_at v victim == 0 then Wipe victim else Collect victim spare
from_victim v (Some victim) None = Wipe victim
from_victim v None spare = Wipe 0

-- else the lowest-numbered Clean block is taken
abbrev pub from_clean : BookValue → Option ℕ → NextPage
from_clean v (Some block) = Take block
from_clean v None = from_victim v (victim_of v) (first_block is_spare v)

-- the page `fill` of the Active block
abbrev pub from_active : BookValue → Option ℕ → NextPage
from_active v (Some block) = Page (block * v.pages + fill_of (state_at v block))
from_active v None = from_clean v (first_block is_clean v)

-- what gives the next record a page, by the clean page rule
unfoldable pub next_page : BookValue → NextPage
next_page v = from_active v (first_block is_active v)

-- the next unit of a Recycled block, and the slot for it
abbrev pub unit_of : ℕ → State → Option ReuseUnit
unit_of block (Recycled level next) = Some (record { block = block; number = next; slot = level })
unit_of block _ = None

abbrev pub unit_in : BookValue → Option ℕ → Option ReuseUnit
unit_in v None = None
unit_in v (Some block) = unit_of block (state_at v block)

-- the offer: the unit `next`, with the slot `level`, of the lowest-numbered Recycled block
unfoldable pub offer_of : BookValue → Option ReuseUnit
offer_of v = unit_in v (first_block is_recycled v)
