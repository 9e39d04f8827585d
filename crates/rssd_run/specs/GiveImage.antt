-- The pieces in which an image is given: the bytes before the cells, and then page after page.
use Rattle.std.specs.Prelude.{ℕ, zero, suc, List, [], ◌∷◌, length, take, drop}
use Rattle.cell_die.specs.DieState.{page_bytes}
use Rattle.die_image.specs.declared.head.ImageHead.{ImageHead}
use Rattle.die_image.specs.Image.{image, shape_of}

-- bytes in pieces of one size, the last of them shorter where they do not fill it, and so many pieces at most
unfoldable pub cut : ℕ → ℕ → List ℕ → List (List ℕ)
cut size zero bytes = []
cut size (suc most) [] = []
cut size (suc most) (byte ∷ bytes) = take size (byte ∷ bytes) ∷ cut size most (drop size (byte ∷ bytes))

-- the pages of cells
abbrev pub pages_in : ℕ → List ℕ → List (List ℕ)
pages_in size bytes = cut size (length bytes) bytes

-- the image of a head and of cells, in pieces
abbrev pub image_pieces : ImageHead → List ℕ → List (List ℕ)
image_pieces head cells = image head [] ∷ pages_in (page_bytes (shape_of head)) cells
