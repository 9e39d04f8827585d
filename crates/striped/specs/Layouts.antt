-- The sizes of a striped sector as the code has them, and what the sector means.
use Rattle.std.specs.Prelude.{◌≡◌, ℕ, ◌*◌, ◌/◌, ◌≤◌, ◌<◌, ◌^◌, ◌&&◌, Bool, List}
use Rattle.striped.specs.declared.chunks.Layout.{Layout}
use Rattle.striped.specs.Striping.{striping, chunks, page_bytes, blank_page, decoded, carries, gives}
use Rattle.striped.specs.Meaning.{Meaning}

-- a layout for messages of k bits in n cells, and a sector of so many bytes
pub record IsLayout (k n bytes : ℕ) (layout : Layout) : Type 0 where
  pub some_bits : 1 ≤ k
  pub some_cells : 1 ≤ layout.page_cells
  pub spans : n ≡ layout.span * layout.page_cells
  pub chunks_are : layout.chunks ≡ chunks (striping k layout.page_cells n bytes)
  pub page_is : layout.page_bytes ≡ page_bytes (striping k layout.page_cells n bytes)
  pub short_message : k < 2 ^ 32
  pub short_row : n < 2 ^ 32
  pub short_sector : 8 * bytes < 2 ^ 32
  pub short_page : 8 * layout.page_bytes < 2 ^ 32
  pub short_unit : 8 * (layout.span * layout.page_bytes) < 2 ^ 32

-- sizes that are served: k bits of a message, m cells of a chunk on a page, n cells of it on a unit, bytes of a sector
pub record IsFitting (k m n bytes : ℕ) : Type 0 where
  pub some_bits : 1 ≤ k
  pub fits : k ≤ m
  pub some_pages : 1 ≤ n / m
  pub whole_pages : n ≡ n / m * m
  pub some_bytes : 1 ≤ bytes
  pub most_bytes : bytes ≤ 512
  pub small : n * (8 * bytes) < 2 ^ 31

-- what a striped sector means, by what its codes decode cells to (f, g) and which cells they give (a, b)
abbrev pub meaning_of : (k m n bytes generations : ℕ) (f : List Bool → List Bool) (a : List Bool → List Bool → List Bool → Bool) (g : List Bool → List Bool)
    (b : List Bool → List Bool → List Bool → Bool) → Meaning
meaning_of k m n bytes generations f a g b = record {
  sector_bytes = bytes;
  page_bytes = page_bytes (striping k m n bytes);
  used_cells = chunks (striping k m n bytes) * m;
  span = n / m;
  generations = generations;
  decoding = record {
    first = decoded (striping k m m bytes) m f;
    second = decoded (striping k m n bytes) n g;
    second_carries = carries (striping k m n bytes) n g;
    first_gives = λ page sector. carries (striping k m m bytes) m f page sector && gives (striping k m m bytes) m a (blank_page (striping k m m bytes)) sector page;
    second_gives = gives (striping k m n bytes) n b;
  };
}
