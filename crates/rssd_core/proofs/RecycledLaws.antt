-- A store where due blocks offered their units, and one over a die that tells other failures to come.
use Rattle.std.proofs.Common.{◌≡◌, ℕ, ◌^◌, ◌<◌, false, Bool, List, length, Option, refl, sym, ap, subst}
use Rattle.cell_die.specs.DieState.{DieState, Failures}
use Rattle.cell_die.specs.Power.{told}
use Rattle.striped.specs.Meaning.{Meaning}
use Rattle.sector_map.specs.declared.entry.Entry.{Entry}
use Rattle.block_state.specs.Book.{BookValue}
use Rattle.reuse_pool.specs.Recycling.{Recycles}
use Rattle.page_codec.specs.Sizes.{Sizes}
use Rattle.page_codec.specs.TrueBook.{IsTrueBook, RecyclingDone}
use Rattle.mount_scan.proofs.TrueRun.{true_book_by_run}
use Rattle.collector.specs.Store.{geometry_of, store}
use Rattle.rssd_core.specs.Held.{Held, IsHeld, Keeps, held, on_die}
use Rattle.rssd_core.proofs.IdleRun.{holds_refl}

module _ {C : Type 0} {meaning : C → Meaning} {sizes : Sizes} {room : ℕ} {die : DieState} {scheme : C} {table : List (Option Entry)} {book : BookValue} {seq moved : ℕ} {stopped : Bool}
    (kept : IsHeld meaning sizes room (held meaning die scheme table book seq moved stopped)) where
  module _ {reuse_max : ℕ} {book' : BookValue} (recycles : Recycles reuse_max book book') where
    true_after : stopped ≡ false → IsTrueBook (geometry_of die.shape (meaning scheme) (length table)) reuse_max die.cells book' table seq
    true_after runs =
        true_book_by_run (geometry_of die.shape (meaning scheme) (length table)) die.cells table seq reuse_max book book' kept.stands.sized.some_units recycles (kept.stands.tables runs)

    pub recycled_held : IsHeld meaning sizes room (held meaning die scheme table book' seq moved stopped)
    recycled_held = record {
      die = kept.die;
      scheme = kept.scheme;
      moves = kept.moves;
      stands = record { sized = kept.stands.sized; spare = kept.stands.spare; tables = λ runs. (true_after runs).tables };
    }

    pub recycled_done : stopped ≡ false → RecyclingDone reuse_max book'
    recycled_done runs = (true_after runs).recycling_done

    pub recycled_keeps : {old : Held C} → held meaning die scheme table book seq moved stopped ≡ old → Keeps meaning old (held meaning die scheme table book' seq moved stopped)
    recycled_keeps is =
        let same = holds_refl (geometry_of die.shape (meaning scheme) (length table)) (store die table book seq) in
        subst (λ (x : Held C). Keeps meaning x (held meaning die scheme table book' seq moved stopped)) is (record {
          holds = record { kept = same.kept; pads = same.pads; sound = same.sound; seqs = same.seqs; drew = same.drew };
          same_scheme = refl;
          same_numbers = refl;
        })

  -- over a die that tells other failures to come
  module _ {new : DieState} (change : Failures → Failures) (told_so : new ≡ told change die) where
    pub told_held : IsHeld meaning sizes room (held meaning new scheme table book seq moved stopped)
    told_held = subst (λ (x : DieState). IsHeld meaning sizes room (held meaning x scheme table book seq moved stopped)) (sym told_so) (record {
      die = kept.die;
      scheme = kept.scheme;
      moves = kept.moves;
      stands = record { sized = kept.stands.sized; spare = kept.stands.spare; tables = kept.stands.tables };
    })

    pub told_store : {old : Held C} → held meaning die scheme table book seq moved stopped ≡ old → held meaning new scheme table book seq moved stopped ≡ on_die (told change) old
    told_store {old = old} is = subst (λ (x : DieState). held meaning x scheme table book seq moved stopped ≡ on_die (told change) old) (sym told_so) (ap (on_die (told change)) is)

-- a bound of the field is one of the value
pub few_moved_is : {C : Type 0} {value old : Held C} → value ≡ old → value.moved < 2 ^ 64 → old.moved < 2 ^ 64
few_moved_is {C = C} is few = subst (λ (x : Held C). x.moved < 2 ^ 64) is few
