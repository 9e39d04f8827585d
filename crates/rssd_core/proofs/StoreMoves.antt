-- An idle move of a store, by its parts.
use Rattle.std.proofs.Common.{◌≡◌, ℕ, Bool, List, length, Option, sym, subst}
use Rattle.cell_die.specs.DieState.{DieState}
use Rattle.striped.specs.Meaning.{Meaning}
use Rattle.sector_map.specs.declared.entry.Entry.{Entry}
use Rattle.block_state.specs.Book.{BookValue}
use Rattle.collector.specs.Moves.{Moved, MoveReadFailed, MoveChangeFailed}
use Rattle.page_codec.specs.Geometry.{Geometry}
use Rattle.page_codec.specs.TrueBook.{IsTrue}
use Rattle.collector.specs.Store.{Store, IsTrueStore, geometry_of, store}
use Rattle.rssd_core.specs.Held.{Held, held}

module _ {C : Type 0} (meaning : C → Meaning) {die new : DieState} {scheme : C} {table table' : List (Option Entry)} {book book' : BookValue} {seq seq' moved : ℕ} {stopped : Bool}
    {old : Held C} (is : held meaning die scheme table book seq moved stopped ≡ old) where
  pub moved_here : Moved (geometry_of die.shape (meaning scheme) (length table)) (meaning scheme).decoding (store die table book seq) (store new table' book' seq')
      → Moved old.geometry (meaning old.scheme).decoding old.cells (store new table' book' seq')
  moved_here m = subst (λ (x : Held C). Moved x.geometry (meaning x.scheme).decoding x.cells (store new table' book' seq')) is m

  pub unread_here : MoveReadFailed (geometry_of die.shape (meaning scheme) (length table)) (store die table book seq) (store new table' book' seq')
      → MoveReadFailed old.geometry old.cells (store new table' book' seq')
  unread_here m = subst (λ (x : Held C). MoveReadFailed x.geometry x.cells (store new table' book' seq')) is m

  pub unmoved_here : MoveChangeFailed (geometry_of die.shape (meaning scheme) (length table)) (meaning scheme).decoding (store die table book seq) (store new table' book' seq')
      → MoveChangeFailed old.geometry (meaning old.scheme).decoding old.cells (store new table' book' seq')
  unmoved_here m = subst (λ (x : Held C). MoveChangeFailed x.geometry (meaning x.scheme).decoding x.cells (store new table' book' seq')) is m

-- after a read that failed the tables are as true as before
pub unread_true : {g : Geometry} {old new : Store} → MoveReadFailed g old new → IsTrueStore g old → IsTrueStore g new
unread_true {g = g} {old = old} {new = new} failed t =
    subst (λ (s : Store). IsTrue g new.die.cells s.book s.table s.seq) (sym failed.same) (subst (λ (cells : List (List ℕ)). IsTrue g cells old.book old.table old.seq) (sym failed.cells.cells) t)
