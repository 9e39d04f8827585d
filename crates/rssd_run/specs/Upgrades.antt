-- What an upgrade of an image keeps.
use Rattle.std.specs.Prelude.{◌≡◌, ℕ, List, Ok, false}
use Rattle.cell_die.specs.DieState.{page_count, page_bytes}
use Rattle.mem_die.specs.Pages.{pages_of}
use Rattle.page_codec.specs.Sectors.{stored}
use Rattle.die_image.specs.declared.head.ImageHead.{ImageHead}
use Rattle.die_image.specs.Image.{shape_of, image as image_of, image_read}
use Rattle.rssd_run.specs.Heads.{numbers_named}

-- the sectors that bytes stand for as the cells of a head's die
abbrev pub sectors_in : ImageHead → List ℕ → List (List ℕ)
sectors_in head cells = stored (numbers_named head).geometry (numbers_named head).meaning.decoding (pages_of (page_bytes (shape_of head)) (page_count (shape_of head)) cells)

-- The image of version 2 of a head and of cells is read again as these, and what is read of it stands for the same sectors.
pub record KeepsSectors (head : ImageHead) (cells : List ℕ) : Type 0 where
  pub read : image_read false (image_of head cells) ≡ Ok (head, cells)
  pub same : (new_head : ImageHead) (new_cells : List ℕ) → image_read false (image_of head cells) ≡ Ok (new_head, new_cells) → sectors_in new_head new_cells ≡ sectors_in head cells
