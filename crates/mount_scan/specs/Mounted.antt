-- The mount rule: the book and the next seq that the cells give, before any block is recycled.
use Rattle.std.specs.Prelude.{◌≡◌, ◌≢◌, ◌⊎◌, ℕ, ◌+◌, ◌-◌, ◌^◌, ◌<◌, ◌≤◌, true, false, List, min, Some}
use Rattle.std.specs.List.{filter, range_with_len}
use Rattle.zero_count.specs.declared.Header.{Header}
use Rattle.block_state.specs.declared.state.State.{State}
use Rattle.block_state.specs.declared.state.State.TheVariants.{Clean, Used, Reused, Spare}
use Rattle.block_state.specs.State.{is_closed}
use Rattle.block_state.specs.Book.{BookValue, state_at, live_at}
use Rattle.spare_gate.specs.Slots.{is_slot_blank}
use Rattle.page_codec.specs.declared.place.Place.{Place}
use Rattle.page_codec.specs.Geometry.{Geometry, units, unit_page, spare_at}
use Rattle.page_codec.specs.Records.{header_in}
use Rattle.page_codec.specs.Sound.{live_count}
use Rattle.page_codec.specs.TrueBook.{BlankAbove, HasSizes, is_block_blank}

-- this slot of some unit of a block is not blank
abbrev pub SlotUsed : Geometry → List (List ℕ) → ℕ → ℕ → Type 0
SlotUsed g cells block slot = (u : ℕ) × (u < units g) × (is_slot_blank (spare_at g cells (unit_page g block u)) slot ≡ false)

-- the level of a block: the greatest slot from 1 on that is not blank in some unit, and 0 where there is none
pub record IsLevel (g : Geometry) (cells : List (List ℕ)) (block level : ℕ) : Type 0 where
  pub within : level < g.generations
  pub above : BlankAbove g cells block level
  pub reached : (level ≡ 0) ⊎ SlotUsed g cells block level

-- what the cells of a block make it: Clean where none is charged, Reused where its level is the last slot, and else Used
abbrev pub IsFound : Geometry → List (List ℕ) → ℕ → State → Type 0
IsFound g cells block Clean = is_block_blank g cells block ≡ true
IsFound g cells block (Used level) = (is_block_blank g cells block ≡ false) × IsLevel g cells block level × (level + 2 ≤ g.generations)
IsFound g cells block Reused = (is_block_blank g cells block ≡ false) × IsLevel g cells block (g.generations - 1)
IsFound g cells block _ = ⊥

-- the highest-numbered block without a live record
pub record IsHighestFree (g : Geometry) (cells : List (List ℕ)) (block : ℕ) : Type 0 where
  pub within : block < g.blocks
  pub free : live_count g cells block ≡ 0
  pub highest : (higher : ℕ) → block < higher → higher < g.blocks → 0 < live_count g cells higher

-- The book of a mount: the highest-numbered block without a live record is the Spare, every other is what its cells make it,
-- each live count is that of the cells, and the order has the closed blocks in ascending number.
pub record IsMounted (g : Geometry) (cells : List (List ℕ)) (book : BookValue) : Type 0 where
  pub sizes : HasSizes g book
  pub spare : ℕ
  pub free : IsHighestFree g cells spare
  pub spare_state : state_at book spare ≡ Spare (is_block_blank g cells spare)
  pub found : (block : ℕ) → block < g.blocks → block ≢ spare → IsFound g cells block (state_at book block)
  pub live : (block : ℕ) → block < g.blocks → live_at book block ≡ live_count g cells block
  pub order : book.order ≡ filter (λ block. is_closed (state_at book block)) (range_with_len 0 g.blocks)

-- a seq and one more, at most the greatest number
abbrev pub seq_after : Header → ℕ
seq_after header = min (header.seq + 1) (2 ^ 64 - 1)

-- The next seq of a mount: 1, or one more than the seq of some valid header, and no valid header asks for more.
pub record IsMountedSeq (g : Geometry) (cells : List (List ℕ)) (seq : ℕ) : Type 0 where
  pub some : 1 ≤ seq
  pub reached : (seq ≡ 1) ⊎ ((place : Place) × (header : Header) × (header_in g cells place ≡ Some header) × (seq ≡ seq_after header))
  pub greatest : (place : Place) (header : Header) → header_in g cells place ≡ Some header → seq_after header ≤ seq
