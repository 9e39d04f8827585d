-- What an idle move leaves.
use Rattle.std.specs.Prelude.{◌≡◌, ◌≢◌, ◌⊎◌, ℕ, ◌+◌, ◌*◌, ◌-◌, ◌<◌, List, max, ◌==◌, if◌then◌else◌, Option, Some, None}
use Rattle.zero_count.specs.declared.Header.{Header}
use Rattle.cell_die.specs.Changes.{SameCells}
use Rattle.cell_die.specs.Calls.{PassedWithin, ChangeFailed, ReadFailed}
use Rattle.striped.specs.Meaning.{Decoding}
use Rattle.block_state.specs.declared.state.State.TheVariants.{Active}
use Rattle.block_state.specs.Book.{BookValue, state_at, NoneActive}
use Rattle.block_state.specs.Victim.{IsIdleVictim, NoneFits}
use Rattle.page_codec.specs.declared.place.Place.{Place}
use Rattle.page_codec.specs.Geometry.{Geometry, block_of}
use Rattle.page_codec.specs.Records.{Placed, live_record}
use Rattle.page_codec.specs.Sectors.{says_zeros, said_by, InCells}
use Rattle.collector.specs.Effects.{recorded, filled}
use Rattle.collector.specs.Store.{Store, IsTrueStore, SameRows}

-- the kind of a record that says the same: 1 for bytes, 3 for zeros
abbrev pub plain_kind : Header → ℕ
plain_kind header = if says_zeros header then 3 else 1

-- on a lower page, or in a lower slot of the same page
abbrev pub ComesBefore : Place → Place → Type 0
ComesBefore a b = (a.page < b.page) ⊎ ((a.page ≡ b.page) × (a.slot < b.slot))

-- the first live record of a block, by page and then by slot
pub record IsFirstLive (g : Geometry) (cells : List (List ℕ)) (block : ℕ) (first : Placed) : Type 0 where
  pub sector : first.header.sector < g.sectors
  pub live : live_record g cells first.header.sector ≡ Some first
  pub inside : block_of g first.place.page ≡ block
  pub none_before : (sector : ℕ) (other : Placed) → sector < g.sectors → live_record g cells sector ≡ Some other → block_of g other.place.page ≡ block → ComesBefore other.place first.place → ⊥

-- the pages that the Active block has left, and 0 where no block is Active
abbrev pub IsRoom : BookValue → ℕ → Type 0
IsRoom book room = ((block fill : ℕ) × (state_at book block ≡ Active fill) × (room ≡ book.pages - fill)) ⊎ (NoneActive book × (room ≡ 0))

-- no idle victim fits the room
abbrev pub NoMoveLeft : BookValue → Type 0
NoMoveLeft book = (room : ℕ) → IsRoom book room → NoneFits book 1 room

-- the reads of getting a record: none where it says zeros
abbrev pub get_reads : Geometry → Option Placed → ℕ
get_reads g None = 0
get_reads g (Some placed) = if says_zeros placed.header then 0 else (if placed.place.slot == 0 then 1 else g.span)

-- the reads of a move: the block's pages up to that of its first live record, and those of getting the record
abbrev pub move_reads : Geometry → ℕ → Placed → ℕ
move_reads g block first = (first.place.page + 1 - block * g.pages) + get_reads g (Some first)

-- A record was moved: the first live one of the idle victim stands in slot 0 of the Active block's next page.
pub record Moved (g : Geometry) (d : Decoding) (old new : Store) : Type 0 where
  pub block : ℕ
  pub fill : ℕ
  pub active : state_at old.book block ≡ Active fill
  pub victim : ℕ
  pub is_victim : IsIdleVictim old.book (g.pages - fill) victim
  pub first : Placed
  pub is_first : IsFirstLive g old.die.cells victim first
  pub live : live_record g new.die.cells first.header.sector
      ≡ Some (record { place = record { page = block * g.pages + fill; slot = 0 }; header = record { sector = first.header.sector; seq = old.seq; kind = plain_kind first.header } })
  pub others : (sector : ℕ) → sector ≢ first.header.sector → live_record g new.die.cells sector ≡ live_record g old.die.cells sector
  pub cells : InCells g d new.die.cells (block * g.pages + fill) first.header (said_by g d old.die.cells (Some first))
  pub rows : SameRows g d old new
  pub book : new.book ≡ filled (recorded old.book block (Some victim)) block
  pub seq : new.seq ≡ old.seq + 1
  pub tables : IsTrueStore g new
  pub erases : new.die.erases ≡ old.die.erases
  pub calls : PassedWithin 2 (move_reads g victim first) old.die new.die

-- A read failed, of the pages of the idle victim or of getting its first live record, and at the latest there: nothing changed.
pub record MoveReadFailed (g : Geometry) (old new : Store) : Type 0 where
  pub same : new ≡ record old { die = new.die }
  pub cells : SameCells old.die new.die
  pub room : ℕ
  pub is_room : IsRoom old.book room
  pub victim : ℕ
  pub is_victim : IsIdleVictim old.book room victim
  pub failed : ReadFailed 0 (g.pages + max 1 g.span) old.die new.die
  pub by_then : (first : Placed) → IsFirstLive g old.die.cells victim first → ReadFailed 0 (move_reads g victim first) old.die new.die

-- A change call of the move of that record failed: the sectors are as before, and one number was drawn.
pub record MoveChangeFailed (g : Geometry) (d : Decoding) (old new : Store) : Type 0 where
  pub same : new ≡ record old { die = new.die; seq = old.seq + 1 }
  pub rows : SameRows g d old new
  pub room : ℕ
  pub is_room : IsRoom old.book room
  pub victim : ℕ
  pub is_victim : IsIdleVictim old.book room victim
  pub first : Placed
  pub is_first : IsFirstLive g old.die.cells victim first
  pub erases : new.die.erases ≡ old.die.erases
  pub failed : ChangeFailed 2 (move_reads g victim first) old.die new.die
