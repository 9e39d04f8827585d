-- Tables before the first read.
use Rattle.std.specs.Prelude.{◌≡◌, ℕ, ◌/◌, ◌<◌, [], length, replicate, None}
use Rattle.cell_die.specs.declared.shape.Shape.{Shape}
use Rattle.block_state.specs.declared.state.State.TheVariants.{Clean}
use Rattle.mount_scan.specs.declared.tables.Tables.{Tables}

-- the map is empty, all blocks are Clean and without live records, and the next seq is 1
pub record IsNew (shape : Shape) (sectors span generations : ℕ) (tables : Tables) : Type 0 where
  pub map : tables.map ≡ replicate sectors None
  pub book : tables.book ≡ record {
    states = replicate shape.blocks Clean;
    live = replicate shape.blocks 0;
    order = [];
    pages = shape.pages;
    units = shape.pages / span;
    generations = generations;
  }
  pub seq : tables.seq ≡ 1
  -- the lists that the scan alone uses
  pub seqs : length tables.seqs.items ≡ sectors
  pub found : length tables.found.items ≡ shape.blocks
  pub unit_pages : tables.span ≡ span
  -- a unit has a page, and a block has a unit
  pub some_pages : 0 < span
  pub some_units : 0 < shape.pages / span
