-- A die, and the tables that are kept of it.
use Rattle.std.specs.Prelude.{◌≡◌, ◌⊎◌, ℕ, ◌≤◌, ◌<◌, List, Option, Some}
use Rattle.zero_count.specs.declared.Header.{Header}
use Rattle.cell_die.specs.declared.shape.Shape.{Shape}
use Rattle.cell_die.specs.DieState.{DieState}
use Rattle.cell_die.specs.Calls.{Kept}
use Rattle.cell_die.specs.Counts.{Stayed}
use Rattle.cell_die.specs.Pads.{NoPadCharged}
use Rattle.striped.specs.Meaning.{Meaning, Decoding}
use Rattle.sector_map.specs.declared.entry.Entry.{Entry}
use Rattle.block_state.specs.Book.{BookValue}
use Rattle.page_codec.specs.Geometry.{Geometry, shape_of}
use Rattle.page_codec.specs.declared.place.Place.{Place}
use Rattle.page_codec.specs.Records.{header_in}
use Rattle.page_codec.specs.Sectors.{stored}
use Rattle.page_codec.specs.Sound.{IsSound}
use Rattle.page_codec.specs.TrueBook.{IsTrue}

-- the numbers of a device on such a die, with such a scheme and so many sectors
abbrev pub geometry_of : Shape → Meaning → ℕ → Geometry
geometry_of shape meaning sectors = record {
  blocks = shape.blocks;
  pages = shape.pages;
  main_bytes = shape.main_bytes;
  generations = meaning.generations;
  span = meaning.span;
  sectors = sectors;
  sector_bytes = meaning.sector_bytes;
}

-- the die, the map, the book and the next seq
pub record Store : Type 0 where
  pub die : DieState
  pub table : List (Option Entry)
  pub book : BookValue
  pub seq : ℕ

abbrev pub store : DieState → List (Option Entry) → BookValue → ℕ → Store
store die table book seq = record { die = die; table = table; book = book; seq = seq }

-- the tables are true to the cells
abbrev pub IsTrueStore : Geometry → Store → Type 0
IsTrueStore g store = IsTrue g store.die.cells store.book store.table store.seq

-- the sectors that the cells stand for stay
abbrev pub SameRows : Geometry → Decoding → Store → Store → Type 0
SameRows g d old new = stored g d new.die.cells ≡ stored g d old.die.cells

-- each valid header stood in its slot before, or its seq was drawn in between
abbrev pub DrewSeqs : Geometry → Store → Store → Type 0
DrewSeqs g old new = (place : Place) (h : Header) → header_in g new.die.cells place ≡ Some h
    → (header_in g old.die.cells place ≡ Some h) ⊎ ((old.seq ≤ h.seq) × (h.seq < new.seq))

-- What every call keeps, whatever its outcome.
pub record Holds (g : Geometry) (old new : Store) : Type 0 where
  pub kept : Kept old.die new.die
  pub pads : NoPadCharged (shape_of g) old.die.cells → NoPadCharged (shape_of g) new.die.cells
  pub sound : IsSound g old.die.cells → IsSound g new.die.cells
  pub seqs : old.seq ≤ new.seq
  -- over cells that are sound, or where no change call failed
  pub drew : IsSound g old.die.cells ⊎ Stayed old.die.change_faults new.die.change_faults → DrewSeqs g old new
