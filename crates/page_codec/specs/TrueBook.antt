-- A book, a map and a next seq that are true to the cells.
use Rattle.std.specs.Prelude.{◌≡◌, ◌⊎◌, ℕ, ◌+◌, ◌-◌, ◌*◌, ◌^◌, ◌<◌, ◌≤◌, Bool, true, false, List, length, map, if◌then◌else◌, Option, Some, None}
use Rattle.std.specs.List.{count_by, range_with_len, list_all}
use Rattle.zero_count.specs.declared.Header.{Header}
use Rattle.cell_die.specs.Cells.{page_at, is_blank}
use Rattle.spare_gate.specs.Slots.{is_slot_blank}
use Rattle.sector_map.specs.declared.entry.Entry.{Entry}
use Rattle.sector_map.specs.declared.entry.Entry.TheVariants.{Held, Zeros}
use Rattle.block_state.specs.declared.state.State.{State}
use Rattle.block_state.specs.declared.state.State.TheVariants.{Clean, Active, Used, Recycled, Reused, Spare}
use Rattle.block_state.specs.Book.{BookValue, state_at, live_at, HasOneSpare, IsValid}
use Rattle.page_codec.specs.Geometry.{Geometry, block_of, units, unit_page, spare_at}
use Rattle.page_codec.specs.declared.place.Place.{Place}
use Rattle.page_codec.specs.Records.{Placed, header_in, live_record}
use Rattle.page_codec.specs.Sectors.{says_zeros}
use Rattle.page_codec.specs.Sound.{live_count}

-- the map's entry for a live record, by what it says
abbrev pub entry_of : Option Placed → Option Entry
entry_of None = None
entry_of (Some placed) =
    if says_zeros placed.header
    then Some (Zeros (record { page = placed.place.page; slot = placed.place.slot }))
    else Some (Held (record { page = placed.place.page; slot = placed.place.slot }))

-- the map that names each sector's live record
unfoldable pub live_map : Geometry → List (List ℕ) → List (Option Entry)
live_map g cells = map (λ sector. entry_of (live_record g cells sector)) (range_with_len 0 g.sectors)

-- no cell of a block is charged
abbrev pub is_block_blank : Geometry → List (List ℕ) → ℕ → Bool
is_block_blank g cells block = list_all (λ page. is_blank (page_at cells page)) (range_with_len (block * g.pages) g.pages)

-- this slot of unit u of a block is blank
abbrev pub UnitSlotBlank : Geometry → List (List ℕ) → ℕ → ℕ → ℕ → Type 0
UnitSlotBlank g cells block u slot = is_slot_blank (spare_at g cells (unit_page g block u)) slot ≡ true

-- in all units of a block the slots above a level are blank
abbrev pub BlankAbove : Geometry → List (List ℕ) → ℕ → ℕ → Type 0
BlankAbove g cells block level = (u slot : ℕ) → u < units g → level < slot → slot < g.generations → UnitSlotBlank g cells block u slot

-- a true spare has no live record, and no charged cell where it is marked blank
pub record IsTrueSpare (g : Geometry) (cells : List (List ℕ)) (block : ℕ) (marked : Bool) : Type 0 where
  pub free : live_count g cells block ≡ 0
  pub blank : marked ≡ true → is_block_blank g cells block ≡ true

-- a true active block has room, its pages from `fill` on are blank, and so are the further slots of its units
pub record IsTrueActive (g : Geometry) (cells : List (List ℕ)) (block fill : ℕ) : Type 0 where
  pub room : fill < g.pages
  pub blank : (i : ℕ) → fill ≤ i → i < g.pages → is_blank (page_at cells (block * g.pages + i)) ≡ true
  pub above : BlankAbove g cells block 0

-- a true used block may be written once more, and the slots above its level are blank
pub record IsTrueUsed (g : Geometry) (cells : List (List ℕ)) (block level : ℕ) : Type 0 where
  pub may_rise : level + 2 ≤ g.generations
  pub above : BlankAbove g cells block level

-- a true recycled block is written in slot `level` of its units, of which those from `next` on are still blank there, and
-- it has live records in those before `next` alone
pub record IsTrueRecycled (g : Geometry) (cells : List (List ℕ)) (block level next : ℕ) : Type 0 where
  pub low : 1 ≤ level
  pub high : level < g.generations
  pub more : next < units g
  pub blank : (u : ℕ) → next ≤ u → u < units g → UnitSlotBlank g cells block u level
  pub above : BlankAbove g cells block level
  pub live : (sector : ℕ) (placed : Placed) → sector < g.sectors → live_record g cells sector ≡ Some placed → block_of g placed.place.page ≡ block
      → (placed.place.slot ≡ level) × ((u : ℕ) × (u < next) × (placed.place.page ≡ unit_page g block u))

-- what each state of a block says of the cells; a Reused block may have any
abbrev pub IsTrueState : Geometry → List (List ℕ) → ℕ → State → Type 0
IsTrueState g cells block Clean = is_block_blank g cells block ≡ true
IsTrueState g cells block (Active fill) = IsTrueActive g cells block fill
IsTrueState g cells block (Used level) = IsTrueUsed g cells block level
IsTrueState g cells block (Recycled level next) = IsTrueRecycled g cells block level next
IsTrueState g cells block Reused = Unit {0}
IsTrueState g cells block (Spare blank) = IsTrueSpare g cells block blank

-- the book is of these blocks
pub record HasSizes (g : Geometry) (book : BookValue) : Type 0 where
  pub blocks : length book.states ≡ g.blocks
  pub pages : book.pages ≡ g.pages
  pub units : book.units ≡ units g
  pub generations : book.generations ≡ g.generations

-- the next seq is greater than that of every valid header, or is the greatest number
abbrev pub IsNextSeq : Geometry → List (List ℕ) → ℕ → Type 0
IsNextSeq g cells seq = ((place : Place) (h : Header) → header_in g cells place ≡ Some h → h.seq < seq) ⊎ (seq ≡ 2 ^ 64 - 1)

-- The book, the map and the next seq are true to the cells.
pub record IsTrue (g : Geometry) (cells : List (List ℕ)) (book : BookValue) (table : List (Option Entry)) (seq : ℕ) : Type 0 where
  -- each live count is the number of sectors whose live record stands in the block
  pub live_counts : (block : ℕ) → block < g.blocks → live_at book block ≡ live_count g cells block
  -- the map names the live record of each sector
  pub entries : table ≡ live_map g cells
  pub one_spare : HasOneSpare book
  pub states : (block : ℕ) → block < g.blocks → IsTrueState g cells block (state_at book block)
  -- the order holds each closed block once and nothing else, and at most one block is Active
  pub kept : IsValid book
  pub next_seq : IsNextSeq g cells seq
  pub sizes : HasSizes g book

-- whether a state is Recycled
abbrev pub is_recycled : State → Bool
is_recycled (Recycled level next) = true
is_recycled _ = false

-- it is not the case that fewer than reuse_max blocks are Recycled and some Used block has no live record
abbrev pub RecyclingDone : ℕ → BookValue → Type 0
RecyclingDone reuse_max book = (block level : ℕ) → state_at book block ≡ Used level → live_at book block ≡ 0 → reuse_max ≤ count_by is_recycled book.states

-- the true book between calls
pub record IsTrueBook (g : Geometry) (reuse_max : ℕ) (cells : List (List ℕ)) (book : BookValue) (table : List (Option Entry)) (seq : ℕ) : Type 0 where
  pub tables : IsTrue g cells book table seq
  pub recycling_done : RecyclingDone reuse_max book
