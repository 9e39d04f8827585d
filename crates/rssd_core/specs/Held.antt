-- A die with a scheme and the tables that are kept of it, as one value.
use Rattle.std.specs.Prelude.{◌≡◌, ℕ, ◌<◌, ◌≤◌, ◌-◌, ◌*◌, Bool, true, false, Result, Ok, Err, List, Option, length}
use Rattle.cell_die.specs.DieState.{DieState}
use Rattle.striped.specs.Meaning.{Meaning}
use Rattle.sector_map.specs.declared.entry.Entry.{Entry}
use Rattle.block_state.specs.Book.{BookValue}
use Rattle.page_codec.specs.Geometry.{Geometry}
use Rattle.page_codec.specs.declared.fault.PutFault.{PutFault}
use Rattle.page_codec.specs.declared.fault.PutFault.TheVariants.{Read, Change}
use Rattle.page_codec.specs.Sizes.{Sizes, Serves, ServesScheme}
use Rattle.collector.specs.Store.{Store, geometry_of, store, IsTrueStore, Holds}
use Rattle.rssd_core.specs.Steps.{IsSized}

-- the die and its tables, their numbers, the scheme, how many records were moved, and whether a change call failed under the value
pub record Held (C : Type 0) : Type 0 where
  pub cells : Store
  pub geometry : Geometry
  pub scheme : C
  pub moved : ℕ
  pub stopped : Bool

-- the same by its parts
abbrev pub held : {C : Type 0} → (C → Meaning) → DieState → C → List (Option Entry) → BookValue → ℕ → ℕ → Bool → Held C
held meaning die scheme table book seq moved stopped = record {
  cells = store die table book seq;
  geometry = geometry_of die.shape (meaning scheme) (length table);
  scheme = scheme;
  moved = moved;
  stopped = stopped;
}

-- the sectors leave a block and a page to spare, and while no change call failed the tables are true to the cells
pub record Stands {C : Type 0} (value : Held C) : Type 0 where
  pub sized : IsSized value.geometry
  pub spare : value.geometry.sectors < (value.geometry.blocks - 1) * value.geometry.pages
  pub tables : value.stopped ≡ false → IsTrueStore value.geometry value.cells

-- .. the buffers serve the die and the scheme, and there is room for the moves of a block
pub record IsHeld {C : Type 0} (meaning : C → Meaning) (sizes : Sizes) (room : ℕ) (value : Held C) : Type 0 where
  pub die : Serves sizes value.cells.die.shape
  pub scheme : ServesScheme sizes (meaning value.scheme)
  pub moves : value.geometry.pages ≤ room
  pub stands : Stands value

-- what every call keeps
pub record Keeps {C : Type 0} (meaning : C → Meaning) (old new : Held C) : Type 0 where
  pub holds : Holds old.geometry old.cells new.cells
  pub same_scheme : meaning new.scheme ≡ meaning old.scheme
  pub same_numbers : new.geometry ≡ old.geometry

-- a change call failed
abbrev pub stops : {T : Type 0} → Result T PutFault → Bool
stops (Ok x) = false
stops (Err Read) = false
stops (Err Change) = true

-- the same over a changed die
abbrev pub on_die : {C : Type 0} → (DieState → DieState) → Held C → Held C
on_die change value = record value { cells = record value.cells { die = change value.cells.die } }
