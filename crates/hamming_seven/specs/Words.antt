-- Three bits in seven cells.
use Rattle.std.specs.Prelude.{◌≡◌, ℕ, ◌+◌, ◌⊎◌, Bool, true, false, not, ◌&&◌, ◌||◌, if◌then◌else◌, List, [], ◌∷◌, length, map, nat_eq, nat_lt, bit_xor, refl}
use Rattle.std.proofs.Common.{arith}
use Rattle.std.specs.Int.{bit_at}
use Rattle.std.specs.List.{list_all}
use Rattle.wom_code.specs.Cells.{cell_at, Carries}
use Rattle.wom_code.specs.Tests.{is_same, is_carrying, all_rows}

-- the sum over GF(2) of the columns of the charged cells; the first cell has the given column, and each later one the next
abbrev pub sum_from : ℕ → List Bool → ℕ
sum_from column [] = 0
sum_from column (cell ∷ cells) = bit_xor (if cell then column else 0) (sum_from (column + 1) cells)

-- the three lowest bits of a sum
abbrev pub bits_of_sum : ℕ → List Bool
bits_of_sum sum = nat_eq (bit_at sum 0) 1 ∷ nat_eq (bit_at sum 1) 1 ∷ nat_eq (bit_at sum 2) 1 ∷ []

-- the bits of the sum of the columns of the charged cells
abbrev pub message_of : List Bool → List Bool
message_of cells = bits_of_sum (sum_from 1 cells)

-- the numbers of the cells that are charged in the new row and not in the old one, in ascending order
abbrev pub added_from : ℕ → List Bool → List Bool → List ℕ
added_from i [] new = []
added_from i (o ∷ old) [] = []
added_from i (o ∷ old) (n ∷ new) = if n && not o then i ∷ added_from (i + 1) old new else added_from (i + 1) old new

-- of two lists the first that differs is less in the first list
abbrev pub is_earlier : List ℕ → List ℕ → Bool
is_earlier [] ys = false
is_earlier (x ∷ xs) [] = false
is_earlier (x ∷ xs) (y ∷ ys) = if nat_lt x y then true else (if nat_lt y x then false else is_earlier xs ys)

-- the first list is shorter, or as long and earlier in order
abbrev pub comes_before : List ℕ → List ℕ → Bool
comes_before xs ys = if nat_lt (length xs) (length ys) then true else (if nat_lt (length ys) (length xs) then false else is_earlier xs ys)

-- the cells that these add come before those that any others add that carry the message over the old ones
abbrev pub IsFirst : List Bool → List Bool → List Bool → Type 0
IsFirst old message new =
    (cells : List Bool) → length cells ≡ 7 → Carries message_of old message cells → (cells ≡ new) ⊎ (comes_before (added_from 0 old new) (added_from 0 old cells) ≡ true)

-- The same as a test: each row of seven cells that carries the message over the old ones is the new one, or adds cells that come later.
unfoldable pub is_first : List Bool → List Bool → List Bool → Bool
is_first old message new =
    list_all (λ cells. not (is_carrying message_of old message cells) || (is_same cells new || comes_before (added_from 0 old new) (added_from 0 old cells))) (all_rows 7)

-- the number whose bits are the message
abbrev pub column_of : List Bool → ℕ
column_of message = (if cell_at message 0 then 1 else 0) + ((if cell_at message 1 then 2 else 0) + (if cell_at message 2 then 4 else 0))

-- the word of a message over blank cells: the one cell with that column, or none
abbrev pub first_of : List Bool → List Bool
first_of message = map (λ column. nat_eq column (column_of message)) (1 ∷ 2 ∷ 3 ∷ 4 ∷ 5 ∷ 6 ∷ 7 ∷ [])

-- each message has a word: no cell, or the one cell with that column
pub word_for : (message : List Bool) → length message ≡ 3 → (cells : List Bool) × (length cells ≡ 7) × (message_of cells ≡ message)
word_for [] e = absurd (omega arith)
word_for (p ∷ []) e = absurd (omega arith)
word_for (p ∷ q ∷ []) e = absurd (omega arith)
word_for (false ∷ false ∷ false ∷ []) e = (false ∷ false ∷ false ∷ false ∷ false ∷ false ∷ false ∷ [], refl, refl)
word_for (false ∷ false ∷ true ∷ []) e = (false ∷ false ∷ false ∷ true ∷ false ∷ false ∷ false ∷ [], refl, refl)
word_for (false ∷ true ∷ false ∷ []) e = (false ∷ true ∷ false ∷ false ∷ false ∷ false ∷ false ∷ [], refl, refl)
word_for (false ∷ true ∷ true ∷ []) e = (false ∷ false ∷ false ∷ false ∷ false ∷ true ∷ false ∷ [], refl, refl)
word_for (true ∷ false ∷ false ∷ []) e = (true ∷ false ∷ false ∷ false ∷ false ∷ false ∷ false ∷ [], refl, refl)
word_for (true ∷ false ∷ true ∷ []) e = (false ∷ false ∷ false ∷ false ∷ true ∷ false ∷ false ∷ [], refl, refl)
word_for (true ∷ true ∷ false ∷ []) e = (false ∷ false ∷ true ∷ false ∷ false ∷ false ∷ false ∷ [], refl, refl)
word_for (true ∷ true ∷ true ∷ []) e = (false ∷ false ∷ false ∷ false ∷ false ∷ false ∷ true ∷ [], refl, refl)
word_for (p ∷ q ∷ r ∷ s ∷ rs) e = absurd (omega arith)
