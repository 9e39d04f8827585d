-- Header cells: when 14 bytes lie below a valid word, by how many of their bits are set.
use Rattle.std.specs.Prelude.{◌≡◌, ℕ, ◌+◌, ◌-◌, ◌≤◌, true, List, [], ◌∷◌, take, slice_index, count_ones, bit_or, nat_lt, if◌then◌else◌}
use Rattle.std.specs.List.{sum_by}
use Rattle.zero_count.specs.HeaderWord.{is_valid}
use Rattle.cell_die.specs.Cells.{IsAbove}

-- the cells lie below those of some valid word
abbrev pub LiesBelowValid : List ℕ → Type 0
LiesBelowValid cells = (word : List ℕ) × (is_valid word ≡ true) × IsAbove word cells

-- the number of one bits of the first 12 bytes: sector and seq
abbrev pub ones_before_kind : List ℕ → ℕ
ones_before_kind cells = sum_by count_ones (take 12 cells)

-- A valid word above the cells may have this kind and this last byte.
pub record MayEndIn (cells : List ℕ) (kind last : ℕ) : Type 0 where
  pub least_kind : 1 ≤ kind
  pub greatest_kind : kind ≤ 4
  -- the bits of the kind are above those of byte 12
  pub kind_above : IsAbove (kind ∷ []) (slice_index cells 12 ∷ [])
  -- the bits of the last byte are above those of byte 13
  pub last_above : IsAbove (last ∷ []) (slice_index cells 13 ∷ [])
  -- the kind alone has so many zero bits
  pub least_last : 8 - count_ones kind ≤ last
  -- and the other bytes have at most as many as the cells
  pub greatest_last : last + count_ones kind + ones_before_kind cells ≤ 104

-- the least number with all bits of a byte that is this much or more, where that is 6 or 7
abbrev pub least_above : ℕ → ℕ → ℕ
least_above byte least = if nat_lt byte least then bit_or byte least else byte

-- some kind and some last byte will do
abbrev pub HasEnding : List ℕ → Type 0
HasEnding cells = (kind : ℕ) × (last : ℕ) × MayEndIn cells kind last
