-- A die in memory as contracts see it.
use Rattle.std.specs.Prelude.{◌≡◌, ◌<◌, ℕ, List, [], Some, replicate}
use Rattle.std.specs.Fork.{slice_chunk}
use Rattle.std.proofs.lemmas.List.FromFn.{length-map-range_with_len}
use Rattle.cell_die.specs.DieState.{DieState, Failures, IsShaped, page_count, page_bytes, page_of, block_of}
use Rattle.cell_die.specs.declared.shape.Torn.{Torn}
use Rattle.cell_die.specs.Cells.{blank_page}
use Rattle.mem_die.specs.Tears.{IsTorn}
use Rattle.cell_die.specs.declared.shape.Shape.{Shape}
use Rattle.cell_die.specs.Calls.{IsQuiet}
use Rattle.mem_die.specs.declared.mem.MemDie.{MemDie}
use Rattle.mem_die.specs.Pages.{pages_of}
use Rattle.mem_die.specs.PageLaws.{page_at-pages, chunk_whole, All-chunk}
use Rattle.mem_die.specs.Supply.{failures_of}

-- what contracts see of a die in memory: it tells its power and its armed failures, and chooses no numbers
abbrev pub mem_state : MemDie → DieState
mem_state die = record {
  shape = die.shape;
  cells = pages_of (page_bytes die.shape) (page_count die.shape) die.cells.items;
  erases = die.erases.items;
  read_faults = die.supply.read_faults;
  change_faults = die.supply.change_faults;
  fixed = [];
  failures = Some (failures_of die.supply);
}

-- what a die in memory tells of its failures to come
abbrev pub failures_told : MemDie → Failures
failures_told die = failures_of die.supply

-- nothing but cells changes
pub record SameButCells (old new : MemDie) : Type 0 where
  pub shape : new.shape ≡ old.shape
  pub erases : new.erases.items ≡ old.erases.items
  pub supply : new.supply ≡ old.supply

-- each page of the block is changed to a blank one, cut in this form
abbrev pub TearsBlock : Torn → ℕ → DieState → DieState → Type 0
TearsBlock torn block old new = (page : ℕ) → block_of old page ≡ block → IsTorn torn (page_of old page) (blank_page (page_bytes old.shape)) (page_of new page)

-- a die in memory has the cells that its shape says
pub mem_shaped : (die : MemDie) → IsShaped (mem_state die)
mem_shaped die = record {
  some_pages = die.within.some_pages;
  pages = length-map-range_with_len (slice_chunk die.cells.items (page_bytes die.shape)) 0 (page_count die.shape);
  blocks = die.counts;
  lengths = λ page below. rw (page_at-pages die.cells.items (page_bytes die.shape) (page_count die.shape) page die.whole)
      (chunk_whole die.cells.items (page_bytes die.shape) (page_count die.shape) page die.whole below);
  bytes = λ page. rw (page_at-pages die.cells.items (page_bytes die.shape) (page_count die.shape) page die.whole)
      (All-chunk die.cells.items (page_bytes die.shape) page (λ byte. byte < 256) die.bytes);
}

-- all cells of a die in memory, page after page
abbrev pub mem_cells : MemDie → List ℕ
mem_cells die = die.cells.items

-- a die of this shape that was just made of these cells: all counts are 0, it has power, and nothing is armed
pub record IsMade (shape : Shape) (bytes : List ℕ) (die : DieState) : Type 0 where
  pub same_shape : die.shape ≡ shape
  pub same_cells : die.cells ≡ pages_of (page_bytes shape) (page_count shape) bytes
  pub erases : die.erases ≡ replicate shape.blocks 0
  pub read_faults : die.read_faults ≡ 0
  pub change_faults : die.change_faults ≡ 0
  pub quiet : IsQuiet die

-- a new die of this shape, with no charged cell
pub record IsNew (shape : Shape) (die : DieState) : Type 0 where
  pub same_shape : die.shape ≡ shape
  pub blank : (page : ℕ) → page < page_count shape → page_of die page ≡ blank_page (page_bytes shape)
  pub erases : die.erases ≡ replicate shape.blocks 0
  pub read_faults : die.read_faults ≡ 0
  pub change_faults : die.change_faults ≡ 0
  pub quiet : IsQuiet die
