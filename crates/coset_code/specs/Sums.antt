-- Sums over GF(2) of columns of cells.
use Rattle.std.specs.Prelude.{◌≡◌, ℕ, zero, suc, ◌⊎◌, ◌==◌, Bool, false, not, ◌&&◌, ◌||◌, if◌then◌else◌, List, length, map, slice_index, nat_eq, bit_xor}
use Rattle.std.specs.Int.{bit_at}
use Rattle.std.specs.List.{range_with_len}
use Rattle.wom_code.specs.Cells.{cell_at}

-- the sum over GF(2) of the columns of the charged cells below n
unfoldable pub sum_below : List ℕ → List Bool → ℕ → ℕ
sum_below columns cells zero = 0
sum_below columns cells (suc n) = bit_xor (if cell_at cells n then slice_index columns n else 0) (sum_below columns cells n)

-- the sum of the columns of all charged cells
abbrev pub syndrome : List ℕ → List Bool → ℕ
syndrome columns cells = sum_below columns cells (length columns)

-- the vector is a sum of columns of uncharged cells below n; zero is the sum of none
unfoldable pub IsFreeSum : List ℕ → List Bool → ℕ → ℕ → Type 0
IsFreeSum columns old zero v = v ≡ 0
IsFreeSum columns old (suc n) v =
    IsFreeSum columns old n v ⊎ ((cell_at old n ≡ false) × IsFreeSum columns old n (bit_xor (slice_index columns n) v))

-- whether the vector is such a sum
unfoldable pub is_free_sum : List ℕ → List Bool → ℕ → ℕ → Bool
is_free_sum columns old zero v = v == 0
is_free_sum columns old (suc n) v = is_free_sum columns old n v || (not (cell_at old n) && is_free_sum columns old n (bit_xor (slice_index columns n) v))

-- the lowest k bits of a number
unfoldable pub bits_of : ℕ → ℕ → List Bool
bits_of k n = map (λ i. nat_eq (bit_at n i) 1) (range_with_len 0 k)
