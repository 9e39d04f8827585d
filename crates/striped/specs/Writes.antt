-- What a write of a sector over chunks leaves of the bytes.
use Rattle.std.specs.Prelude.{◌≡◌, ℕ, ◌+◌, ◌*◌, ◌<◌, ◌≤◌, Bool, List, length}
use Rattle.cell_bits.specs.Cells.{charge_at, IsAbove}
use Rattle.wom_code.specs.Cells.{NoneCarries}
use Rattle.striped.specs.declared.chunks.Layout.{Layout}
use Rattle.striped.specs.Striping.{Striping, striping, chunks, chunk_cells, chunk_message, IsCarried, IsGiven}

-- the striping of a sector of this length over chunks of n cells that carry k bits each
abbrev pub striping_of : Layout → ℕ → ℕ → List ℕ → Striping
striping_of layout k n sector = striping k layout.page_cells n (length sector)

-- the new bytes are above the old ones and carry the sector, in cells that the code gives, and no cell past the last chunk changed
pub record WritesChunks (layout : Layout) (k n : ℕ) (decode : List Bool → List Bool) (given : List Bool → List Bool → List Bool → Bool) (old new sector : List ℕ) : Type 0 where
  pub carried : IsCarried (striping_of layout k n sector) n decode new sector
  pub gives : IsGiven (striping_of layout k n sector) n given old sector new
  pub above : IsAbove new old
  pub rest : (page cell : ℕ) → cell < 8 * layout.page_bytes → layout.chunks * layout.page_cells ≤ cell
      → charge_at new (8 * layout.page_bytes * page + cell) ≡ charge_at old (8 * layout.page_bytes * page + cell)

-- some chunk's message is carried by no cells above those of the chunk
abbrev pub DeclinesChunk : Layout → ℕ → ℕ → (List Bool → List Bool) → List ℕ → List ℕ → Type 0
DeclinesChunk layout k n decode old sector =
    (i : ℕ) × (i < chunks (striping_of layout k n sector)) × NoneCarries decode n (chunk_cells (striping_of layout k n sector) n old i) (chunk_message (striping_of layout k n sector) sector i)
