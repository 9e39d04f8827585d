-- The limits of a die in memory.
use Rattle.std.specs.Prelude.{◌*◌, ◌<◌, ◌≤◌}
use Rattle.cell_die.specs.declared.shape.Shape.{Shape}
use Rattle.cell_die.specs.DieState.{page_count, page_bytes}

pub record IsWithinLimits (shape : Shape) : Type 0 where
  pub some_blocks : 0 < shape.blocks
  pub some_pages : 0 < shape.pages
  pub some_main : 0 < shape.main_bytes
  pub some_spare : 0 < shape.spare_bytes
  pub blocks : shape.blocks ≤ 1024
  pub pages : shape.pages ≤ 128
  pub main_bytes : shape.main_bytes ≤ 1200
  pub spare_bytes : shape.spare_bytes ≤ 64
  pub total : page_count shape * page_bytes shape ≤ 67108864
