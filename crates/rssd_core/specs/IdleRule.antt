-- An idle call as moves by the idle-move rule, one after another.
use Rattle.std.specs.Prelude.{◌≡◌, ◌≢◌, ◌⊎◌, ℕ, ◌+◌, ◌*◌, ◌^◌, ◌<◌, ◌≤◌, List, [], ◌∷◌, length, slice_index, Some}
use Rattle.std.specs.List.{Contains}
use Rattle.cell_die.specs.DieState.{DieState}
use Rattle.cell_die.specs.Changes.{SameCells}
use Rattle.cell_die.specs.Calls.{PassedWithin, ReadFailed, ChangeFailed}
use Rattle.block_state.specs.declared.state.State.TheVariants.{Active}
use Rattle.block_state.specs.Book.{BookValue, state_at}
use Rattle.block_state.specs.Victim.{IsIdleVictim, NoneFits}
use Rattle.reuse_pool.specs.Recycling.{Recycles}
use Rattle.page_codec.specs.Puts.{first_slot}
use Rattle.page_codec.specs.Records.{Placed, live_record}
use Rattle.page_codec.specs.Sectors.{stored, said_by, InCells}
use Rattle.page_codec.specs.TrueBook.{IsTrue, live_map}
use Rattle.collector.specs.Again.{again}
use Rattle.collector.specs.Moves.{IsFirstLive, move_reads as reads_of_move}
use Rattle.rssd_core.specs.Rules.{room_left}
use Rattle.collector.specs.Effects.{recorded, filled}
use Rattle.rssd_core.specs.Calls.{move_reads}
use Rattle.rssd_core.specs.DeviceValue.{Numbers, DeviceView, LiveAt}
use Rattle.rssd_core.specs.Within.{Finished}

-- ---- one move

-- what moves of a device between two idle moves: the die, the book and the next seq
pub record Moment : Type 0 where
  pub die : DieState
  pub book : BookValue
  pub seq : ℕ

abbrev pub moment_of : DeviceView → Moment
moment_of view = record { die = view.die; book = view.book; seq = view.seq }

-- no idle victim fits the room, or the record numbers are spent
abbrev pub NoMoveLeft : Moment → Type 0
NoMoveLeft m = NoneFits m.book 1 (room_left m.book) ⊎ (2 ^ 62 ≤ m.seq)

-- The live record of a sector was moved by the idle-move rule: it was the first, by page and then by slot, of the idle victim for
-- the room, and stands on the Active block's page `fill`, of kind 1, or of kind 3 where it holds zeros. The record effect followed.
pub record MoveByRule (d : Numbers) (sector : ℕ) (old new : Moment) : Type 0 where
  pub block : ℕ
  pub fill : ℕ
  pub active : state_at old.book block ≡ Active fill
  pub victim : ℕ
  pub is_victim : IsIdleVictim old.book (room_left old.book) victim
  pub first : Placed
  pub is_first : IsFirstLive d.geometry old.die.cells victim first
  pub of_sector : first.header.sector ≡ sector
  pub live : live_record d.geometry new.die.cells sector ≡ Some (record { place = first_slot (block * d.geometry.pages + fill); header = again first.header old.seq })
  pub others : (other : ℕ) → other ≢ sector → live_record d.geometry new.die.cells other ≡ live_record d.geometry old.die.cells other
  pub cells : InCells d.geometry d.meaning.decoding new.die.cells (block * d.geometry.pages + fill) first.header (said_by d.geometry d.meaning.decoding old.die.cells (Some first))
  pub rows : stored d.geometry d.meaning.decoding new.die.cells ≡ stored d.geometry d.meaning.decoding old.die.cells
  pub book : new.book ≡ filled (recorded old.book block (Some victim)) block
  pub seq : new.seq ≡ old.seq + 1
  pub true_book : IsTrue d.geometry new.die.cells new.book (live_map d.geometry new.die.cells) new.seq
  pub calls : PassedWithin 2 (reads_of_move d.geometry victim first) old.die new.die

-- moves of these sectors' records, one after another, lead from one moment to another
unfoldable pub MovesByRule : Numbers → List ℕ → Moment → Moment → Type 0
MovesByRule d [] old new = new ≡ old
MovesByRule d (sector ∷ sectors) old new = (mid : Moment) × MoveByRule d sector old mid × MovesByRule d sectors mid new

-- ---- an idle call that answers a number

-- The live records of these sectors, and of no others, moved to slot 0 of the Active block's pages from `fill` on, in order.
pub record MovesInOrder (d : Numbers) (old new : DeviceView) (block fill : ℕ) (sectors : List ℕ) : Type 0 where
  pub distinct : (i j : ℕ) → i < j → j < length sectors → slice_index sectors i ≢ slice_index sectors j
  pub moved : (i : ℕ) → i < length sectors → LiveAt d new (slice_index sectors i) (first_slot (block * d.geometry.pages + fill + i))
  pub others : (sector : ℕ) → (Contains sectors sector → ⊥) → live_record d.geometry new.die.cells sector ≡ live_record d.geometry old.die.cells sector

-- An idle call that answers k moves the live records of exactly k sectors, each by the idle-move rule. The recycling rule follows.
pub record IdleMoves (d : Numbers) (old new : DeviceView) (k : ℕ) : Type 0 where
  pub sectors : List ℕ
  pub count : length sectors ≡ k
  pub block : ℕ
  pub fill : ℕ
  pub active : 0 < k → state_at old.book block ≡ Active fill
  pub in_order : MovesInOrder d old new block fill sectors
  -- the book after the last move
  pub book : BookValue
  pub by_rule : MovesByRule d sectors (moment_of old) (record { die = new.die; book = book; seq = new.seq })
  pub recycled : Recycles d.reuse_max book new.book

-- ---- an idle call in which a call of the die failed

-- A read of a move failed, of the pages of the idle victim or of getting its first live record, and at the latest there: no cell
-- and no number differs, and the recycling rule follows.
pub record MoveUnread (d : Numbers) (old : Moment) (new : DeviceView) : Type 0 where
  pub cells : SameCells old.die new.die
  pub seq : new.seq ≡ old.seq
  pub recycled : Recycles d.reuse_max old.book new.book
  pub victim : ℕ
  pub is_victim : IsIdleVictim old.book (room_left old.book) victim
  pub failed : ReadFailed 0 (move_reads d.geometry) old.die new.die
  pub by_then : (first : Placed) → IsFirstLive d.geometry old.die.cells victim first → ReadFailed 0 (reads_of_move d.geometry victim first) old.die new.die

-- A change call of the move of that record failed: it had drawn its number, the book is as before it, and so is every sector.
pub record MoveBroken (d : Numbers) (old : Moment) (new : DeviceView) : Type 0 where
  pub rows : stored d.geometry d.meaning.decoding new.die.cells ≡ stored d.geometry d.meaning.decoding old.die.cells
  pub seq : new.seq ≡ old.seq + 1
  pub book : new.book ≡ old.book
  pub victim : ℕ
  pub is_victim : IsIdleVictim old.book (room_left old.book) victim
  pub first : Placed
  pub is_first : IsFirstLive d.geometry old.die.cells victim first
  pub failed : ChangeFailed 2 (reads_of_move d.geometry victim first) old.die new.die

-- The records of these sectors, fewer than n, were moved by the idle-move rule. There was one more to move, and that move was not
-- finished.
pub record IdleUnfinished (d : Numbers) (n : ℕ) (old new : DeviceView) : Type 0 where
  pub sectors : List ℕ
  pub some_left : length sectors < n
  pub finished : Finished old new (length sectors)
  -- after the last finished move
  pub mid : Moment
  pub by_rule : MovesByRule d sectors (moment_of old) mid
  pub one_more : NoMoveLeft mid → ⊥
  pub unfinished : MoveUnread d mid new ⊎ MoveBroken d mid new
