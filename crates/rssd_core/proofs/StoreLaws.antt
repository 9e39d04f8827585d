-- A store by its parts: what a call keeps, and what holds of the store after it.
use Rattle.std.proofs.Common.{◌≡◌, ℕ, ◌-◌, ◌*◌, ◌<◌, ◌≤◌, false, Bool, List, length, Option, refl, sym, ◌∙◌, subst}
use Rattle.cell_die.specs.DieState.{DieState}
use Rattle.striped.specs.Meaning.{Meaning}
use Rattle.sector_map.specs.declared.entry.Entry.{Entry}
use Rattle.block_state.specs.Book.{BookValue}
use Rattle.page_codec.specs.Geometry.{Geometry}
use Rattle.page_codec.specs.Sizes.{Sizes, Serves, ServesScheme}
use Rattle.collector.specs.Store.{geometry_of, store, IsTrueStore, Holds}
use Rattle.rssd_core.specs.Held.{Held, IsHeld, Keeps, held}
use Rattle.rssd_core.specs.Steps.{IsSized}
use Rattle.rssd_core.proofs.Chained.{holds_trans}
use Rattle.rssd_core.proofs.IdleRun.{holds_refl}
use Rattle.rssd_core.proofs.OpenedLaws.{geometry_same}

-- ---- after a call on the parts

module _ {C : Type 0} {meaning : C → Meaning} {die new : DieState} {scheme scheme' : C} {table table' : List (Option Entry)} {book book' : BookValue} {seq seq' : ℕ}
    (holds : Holds (geometry_of die.shape (meaning scheme) (length table)) (store die table book seq) (store new table' book' seq'))
    (same : meaning scheme' ≡ meaning scheme) (long : length table' ≡ length table) where
  pub after_keeps : {moved moved' : ℕ} {stopped stopped' : Bool} {old : Held C} → held meaning die scheme table book seq moved stopped ≡ old
      → Keeps meaning old (held meaning new scheme' table' book' seq' moved' stopped')
  after_keeps {moved' = moved'} {stopped' = stopped'} is =
      subst (λ (x : Held C). Keeps meaning x (held meaning new scheme' table' book' seq' moved' stopped')) is
      (record { holds = holds; same_scheme = same; same_numbers = geometry_same holds.kept.shape same long })

  pub after_held : {moved moved' : ℕ} {stopped stopped' : Bool} {sizes sizes' : Sizes} {room room' : ℕ} → IsHeld meaning sizes room (held meaning die scheme table book seq moved stopped)
      → sizes' ≡ sizes → room' ≡ room → (stopped' ≡ false → IsTrueStore (geometry_of die.shape (meaning scheme) (length table)) (store new table' book' seq'))
      → IsHeld meaning sizes' room' (held meaning new scheme' table' book' seq' moved' stopped')
  after_held {sizes = sizes} {room = room} kept same_sizes same_room tables = record {
    die = subst (λ (s : Sizes). Serves s new.shape) (sym same_sizes) (subst (Serves sizes) (sym holds.kept.shape) kept.die);
    scheme = subst (λ (s : Sizes). ServesScheme s (meaning scheme')) (sym same_sizes) (subst (ServesScheme sizes) (sym same) kept.scheme);
    moves = subst (λ (n : ℕ). new.shape.pages ≤ n) (sym same_room) (subst (λ (g : Geometry). g.pages ≤ room) (sym (geometry_same holds.kept.shape same long)) kept.moves);
    stands = record {
      sized = subst IsSized (sym (geometry_same holds.kept.shape same long)) kept.stands.sized;
      spare = subst (λ (g : Geometry). g.sectors < (g.blocks - 1) * g.pages) (sym (geometry_same holds.kept.shape same long)) kept.stands.spare;
      tables = λ runs. subst (λ (g : Geometry). IsTrueStore g (store new table' book' seq')) (sym (geometry_same holds.kept.shape same long)) (tables runs);
    };
  }

-- ---- one call after another

pub keeps_refl : {C : Type 0} {meaning : C → Meaning} (old : Held C) → Keeps meaning old old
keeps_refl old = record { holds = holds_refl old.geometry old.cells; same_scheme = refl; same_numbers = refl }

module _ {C : Type 0} {meaning : C → Meaning} {old mid : Held C} (first : Keeps meaning old mid) where
  -- what holds by the numbers and the scheme afterwards holds by those before
  pub over_kept : (P : Geometry → Meaning → Type 0) → P mid.geometry (meaning mid.scheme) → P old.geometry (meaning old.scheme)
  over_kept P there = subst (λ (g : Geometry). P g (meaning old.scheme)) first.same_numbers (subst (P mid.geometry) first.same_scheme there)

  pub keeps_trans : {new : Held C} → Keeps meaning mid new → Keeps meaning old new
  keeps_trans {new = new} then = record {
    holds = holds_trans old.geometry old.cells mid.cells new.cells first.holds (subst (λ (g : Geometry). Holds g mid.cells new.cells) first.same_numbers then.holds);
    same_scheme = then.same_scheme ∙ first.same_scheme;
    same_numbers = then.same_numbers ∙ first.same_numbers;
  }
