-- The most calls of the die that one call of a device makes, by the device's numbers alone.
use Rattle.std.specs.Prelude.{ℕ, ◌+◌, ◌-◌, ◌*◌, ◌≤◌}
use Rattle.page_codec.specs.Geometry.{Geometry}
use Rattle.page_codec.specs.Records as records
use Rattle.collector.specs.Moves.{IsFirstLive, move_reads as reads_of_move}
use Rattle.rssd_core.specs.declared.device.Placed.{Placed}
use Rattle.rssd_core.specs.DeviceValue.{Numbers, DeviceView}
use Rattle.rssd_core.specs.Within.{write_calls, write_reads, trim_calls, trim_reads, sector_reads}

-- The change calls of a write or trim: an erase, two for each copy, of which there are fewer than a block has pages, one for the
-- seal, and two for the record itself.
abbrev pub most_changes : Geometry → ℕ
most_changes g = 2 * g.pages + 2

-- the reads of a collection: its victim's pages, and a unit for each copy
abbrev pub most_collection_reads : Geometry → ℕ
most_collection_reads g = g.pages + (g.pages - 1) * g.span

pub record WorstCases (d : Numbers) (view : DeviceView) : Type 0 where
  -- a read reads one unit, and changes nothing
  pub read : (sector : ℕ) → sector_reads d view sector ≤ d.geometry.span
  -- a write reads the offered unit, and then it may collect
  pub write : (placed : Placed) → write_calls d view placed ≤ most_changes d.geometry
  pub write_read : (placed : Placed) → write_reads d view placed ≤ d.geometry.span + most_collection_reads d.geometry
  -- a trim may collect
  pub trim : (sector : ℕ) → trim_calls d view sector ≤ most_changes d.geometry
  pub trim_read : (sector : ℕ) → trim_reads d view sector ≤ most_collection_reads d.geometry
  -- an idle move reads its victim's pages and one unit, and makes two change calls
  pub move : (victim : ℕ) (first : records.Placed) → IsFirstLive d.geometry view.die.cells victim first → reads_of_move d.geometry victim first ≤ d.geometry.pages + d.geometry.span
