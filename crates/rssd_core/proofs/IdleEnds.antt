-- One move more, and how the moves of an idle call end.
use Rattle.std.proofs.Common.{◌≡◌, inl, ℕ, ◌+◌, ◌^◌, ◌<◌, ◌≤◌, List, length, Option, Some, refl, sym, ap, ◌∙◌, subst}
use Rattle.cell_die.specs.declared.shape.Shape.{Shape}
use Rattle.striped.specs.Meaning.{Meaning, Decoding}
use Rattle.sector_map.specs.declared.entry.Entry.{Entry}
use Rattle.block_state.specs.Book.{BookValue}
use Rattle.page_codec.specs.Geometry.{Geometry}
use Rattle.page_codec.specs.declared.fault.PutFault.{PutFault}
use Rattle.page_codec.specs.declared.fault.PutFault.TheVariants.{Read, Change}
use Rattle.page_codec.specs.TrueBook.{IsTrue}
use Rattle.collector.specs.Moves.{Moved, MoveReadFailed, MoveChangeFailed, NoMoveLeft}
use Rattle.collector.specs.Store.{Store, Holds, geometry_of}
use Rattle.collector.proofs.Tables.{live_map_long}
use Rattle.rssd_core.specs.Idle.{MovesRun, more, MovesEnded, MovesEnd}

-- the same die shape, scheme and number of sectors give the same numbers
pub same_numbers : (s t : Shape) (m n : Meaning) (j k : ℕ) → s ≡ t → m ≡ n → j ≡ k → geometry_of s m j ≡ geometry_of t n k
same_numbers s t m n j k shape meaning sectors = λ i. geometry_of (shape i) (meaning i) (sectors i)

-- what stays in a call stays in it and all before it
pub still : {X : Type 0} (first mid last : X) → last ≡ mid → mid ≡ first → last ≡ first
still first mid last later before = later ∙ before

-- a map of true tables has an entry for each sector
pub table_long : (g : Geometry) (cells : List (List ℕ)) (book : BookValue) (table : List (Option Entry)) (seq : ℕ) → IsTrue g cells book table seq → length table ≡ g.sectors
table_long g cells book table seq t = ap (λ (map : List (Option Entry)). length map) t.entries ∙ live_map_long g cells

-- what a move says by the numbers at its begin, it says by the same numbers
module _ (g h : Geometry) (d e : Decoding) (numbers : h ≡ g) (decoding : e ≡ d) (old mid new : Store) where
  pub moved_by : Moved h e mid new → Moved g d mid new
  moved_by m = subst (λ (x : Geometry). Moved x d mid new) numbers (subst (λ (y : Decoding). Moved h y mid new) decoding m)

  pub holds_by : Holds h mid new → Holds g mid new
  holds_by m = subst (λ (x : Geometry). Holds x mid new) numbers m

  read_failed_by : MoveReadFailed h mid new → MoveReadFailed g mid new
  read_failed_by m = subst (λ (x : Geometry). MoveReadFailed x mid new) numbers m

  change_failed_by : MoveChangeFailed h e mid new → MoveChangeFailed g d mid new
  change_failed_by m = subst (λ (x : Geometry). MoveChangeFailed x d mid new) numbers (subst (λ (y : Decoding). MoveChangeFailed h y mid new) decoding m)

  -- one move more
  pub one_more : (k : ℕ) → MovesRun g d k old mid → Moved h e mid new → Holds h mid new → MovesRun g d (k + 1) old new
  one_more k run m holds = more k old mid new run (moved_by m) (holds_by holds)

  -- none is left to move
  pub none_more : (n k : ℕ) → k ≤ n → MovesRun g d k old mid → NoMoveLeft mid.book → new ≡ mid → MovesEnded g d n k old new
  none_more n k at_most run left same = subst (MovesEnded g d n k old) (sym same) (record { run = run; at_most = at_most; all = λ less. inl left })

  -- a call failed
  pub failed_move : (n k : ℕ) (fault : PutFault) → k < n → MovesRun g d k old mid → Holds h mid new → (NoMoveLeft mid.book → ⊥) → mid.seq < 2 ^ 62
      → (fault ≡ Read → MoveReadFailed h mid new) → (fault ≡ Change → MoveChangeFailed h e mid new)
      → MovesEnd g d n k (Some fault) old new
  failed_move n k Read less run holds one_more fresh read change =
      record { mid = mid; run = run; some_left = less; one_more = one_more; fresh = fresh; failed = read_failed_by (read refl); holds = holds_by holds }
  failed_move n k Change less run holds one_more fresh read change =
      record { mid = mid; run = run; some_left = less; one_more = one_more; fresh = fresh; failed = change_failed_by (change refl); holds = holds_by holds }
