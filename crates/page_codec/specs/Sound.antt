-- Cells that crashes may leave.
use Rattle.std.specs.Prelude.{◌≡◌, ℕ, ◌+◌, ◌^◌, ◌<◌, Bool, true, false, List, ◌==◌, Option, Some, None}
use Rattle.std.specs.List.{count_by, range_with_len}
use Rattle.zero_count.specs.declared.Header.{Header}
use Rattle.zero_count.specs.HeaderWord.{is_valid}
use Rattle.cell_die.specs.Cells.{IsAbove}
use Rattle.spare_gate.specs.Slots.{word_at}
use Rattle.page_codec.specs.Geometry.{Geometry, page_count, block_of, spare_at}
use Rattle.page_codec.specs.declared.place.Place.{Place}
use Rattle.page_codec.specs.Records.{Placed, header_in, live_record}

-- whether a live record stands in a block
abbrev pub stands_in : Geometry → ℕ → Option Placed → Bool
stands_in g block None = false
stands_in g block (Some placed) = block_of g placed.place.page == block

-- the number of sectors whose live record stands in a block
unfoldable pub live_count : Geometry → List (List ℕ) → ℕ → ℕ
live_count g cells block = count_by (λ sector. stands_in g block (live_record g cells sector)) (range_with_len 0 g.sectors)

-- the header cells of every slot lie below those of some valid word
abbrev pub HeadersBelow : Geometry → List (List ℕ) → Type 0
HeadersBelow g cells = (page slot : ℕ) → page < page_count g → slot < g.generations → (word : List ℕ) × (is_valid word ≡ true) × IsAbove word (word_at (spare_at g cells page) slot)

-- the seqs of all valid headers differ
abbrev pub SeqsDiffer : Geometry → List (List ℕ) → Type 0
SeqsDiffer g cells = (a b : Place) (h k : Header) → header_in g cells a ≡ Some h → header_in g cells b ≡ Some k → h.seq ≡ k.seq → a ≡ b

-- every valid header's seq is below a bound
abbrev pub SeqsBelow : Geometry → ℕ → List (List ℕ) → Type 0
SeqsBelow g bound cells = (place : Place) (h : Header) → header_in g cells place ≡ Some h → h.seq < bound

-- Cells are sound where four things hold.
pub record IsSound (g : Geometry) (cells : List (List ℕ)) : Type 0 where
  pub below_valid : HeadersBelow g cells
  pub seqs_differ : SeqsDiffer g cells
  -- some block has no live record
  pub one_free : (block : ℕ) × (block < g.blocks) × (live_count g cells block ≡ 0)
  pub small_seqs : SeqsBelow g (2 ^ 62 + 2 ^ 20) cells
