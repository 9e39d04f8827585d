-- A mounted device as contracts see it.
use Rattle.std.specs.Prelude.{◌≡◌, ℕ, Bool, List, Some}
use Rattle.zero_count.specs.declared.Header.{Header}
use Rattle.cell_die.specs.DieState.{DieState}
use Rattle.striped.specs.Meaning.{Meaning}
use Rattle.block_state.specs.Book.{BookValue}
use Rattle.page_codec.specs.declared.place.Place.{Place}
use Rattle.page_codec.specs.Geometry.{Geometry}
use Rattle.page_codec.specs.Records.{live_record}
use Rattle.page_codec.specs.Sectors.{stored}

-- what never changes: the device's sizes, what its scheme makes of cells, and how many blocks may be Recycled
pub record Numbers : Type 0 where
  pub geometry : Geometry
  pub meaning : Meaning
  pub reuse_max : ℕ

-- what moves: the die, the book, the next seq, and the tallies of writes by their answer and of records moved
pub record DeviceView : Type 0 where
  pub die : DieState
  pub book : BookValue
  pub seq : ℕ
  pub first : ℕ
  pub second : ℕ
  pub declined : ℕ
  pub moved : ℕ

pub record DeviceValue : Type 0 where
  pub numbers : Numbers
  pub view : DeviceView
  -- a change call failed under this value
  pub stopped : Bool

-- the sectors that the cells stand for
abbrev pub rows_of : Numbers → DeviceView → List (List ℕ)
rows_of d view = stored d.geometry d.meaning.decoding view.die.cells

-- the device over a changed die
abbrev pub with_die : (DieState → DieState) → DeviceValue → DeviceValue
with_die change device = record device { view = record device.view { die = change device.view.die } }

-- the live record of a sector stands in this slot
abbrev pub LiveAt : Numbers → DeviceView → ℕ → Place → Type 0
LiveAt d view sector place = (header : Header) × (live_record d.geometry view.die.cells sector ≡ Some (record { place = place; header = header }))
