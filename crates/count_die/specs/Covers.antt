-- A tally that fits a die.
use Rattle.std.specs.Prelude.{◌≡◌}
use Rattle.cell_die.specs.declared.shape.Shape.{Shape}
use Rattle.count_die.specs.declared.tally.Tally.{Tally}
use Rattle.count_die.specs.Tallies.{blocks_of, pages_of}

-- it counts for each block and page of a die of this shape
pub record Covers (shape : Shape) (tally : Tally) : Type 0 where
  pub blocks : blocks_of tally ≡ shape.blocks
  pub pages : pages_of tally ≡ shape.pages
