-- The moves of an idle call, one after another, and how they end.
use Rattle.std.specs.Prelude.{◌⊎◌, ℕ, ◌+◌, ◌^◌, ◌<◌, ◌≤◌, Bool, true, false, Option, Some, None}
use Rattle.striped.specs.Meaning.{Decoding}
use Rattle.page_codec.specs.Geometry.{Geometry}
use Rattle.page_codec.specs.declared.fault.PutFault.{PutFault}
use Rattle.page_codec.specs.declared.fault.PutFault.TheVariants.{Read, Change}
use Rattle.collector.specs.Moves.{Moved, MoveReadFailed, MoveChangeFailed, NoMoveLeft}
use Rattle.collector.specs.Store.{Store, Holds}

-- so many moves
pub data MovesRun (g : Geometry) (d : Decoding) : ℕ → Store → Store → Type 0 where
  none : (old : Store) → MovesRun g d 0 old old
  more : (k : ℕ) (old mid new : Store) → MovesRun g d k old mid → Moved g d mid new → Holds g mid new → MovesRun g d (k + 1) old new

-- no call failed: all n were made, or no further one may be
pub record MovesEnded (g : Geometry) (d : Decoding) (n k : ℕ) (old new : Store) : Type 0 where
  pub run : MovesRun g d k old new
  pub at_most : k ≤ n
  pub all : k < n → NoMoveLeft new.book ⊎ (2 ^ 62 ≤ new.seq)

-- a call failed in the move after these
pub record MovesFailed (g : Geometry) (d : Decoding) (n k : ℕ) (old new : Store) (Failed : Store → Type 0) : Type 0 where
  pub mid : Store
  pub run : MovesRun g d k old mid
  pub some_left : k < n
  pub one_more : NoMoveLeft mid.book → ⊥
  pub fresh : mid.seq < 2 ^ 62
  pub failed : Failed mid
  pub holds : Holds g mid new

-- at most n moves were made, of which k were finished
abbrev pub MovesEnd : Geometry → Decoding → ℕ → ℕ → Option PutFault → Store → Store → Type 0
MovesEnd g d n k None old new = MovesEnded g d n k old new
MovesEnd g d n k (Some Read) old new = MovesFailed g d n k old new (λ mid. MoveReadFailed g mid new)
MovesEnd g d n k (Some Change) old new = MovesFailed g d n k old new (λ mid. MoveChangeFailed g d mid new)

-- a change call ended the moves
abbrev pub stopped_by : Option PutFault → Bool
stopped_by None = false
stopped_by (Some Read) = false
stopped_by (Some Change) = true
