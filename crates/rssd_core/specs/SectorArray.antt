-- The sector array that a device stands for: a list of rows, one a sector.
use Rattle.std.specs.Prelude.{ℕ, ◌-◌, ◌&&◌, ◌==◌, Bool, true, false, List, [], ◌∷◌, ◌++◌, length, replicate, slice_set, if◌then◌else◌}

-- shorter bytes are filled up with zero bytes
abbrev pub filled_up : ℕ → List ℕ → List ℕ
filled_up sector_bytes bytes = bytes ++ replicate (sector_bytes - length bytes) 0

-- a write replaces a row
abbrev pub written : ℕ → List (List ℕ) → ℕ → List ℕ → List (List ℕ)
written sector_bytes rows sector bytes = slice_set rows sector (filled_up sector_bytes bytes)

-- a trim makes a row zeros
abbrev pub trimmed : ℕ → List (List ℕ) → ℕ → List (List ℕ)
trimmed sector_bytes rows sector = slice_set rows sector (replicate sector_bytes 0)

-- there are no bytes
abbrev pub is_empty : List ℕ → Bool
is_empty [] = true
is_empty (byte ∷ bytes) = false

-- the byte, and then the others, unless all are zero
abbrev pub unless_zeros : ℕ → List ℕ → List ℕ
unless_zeros byte others = if is_empty others && (byte == 0) then [] else byte ∷ others

-- the bytes without the zeros at the end
abbrev pub without_zeros : List ℕ → List ℕ
without_zeros [] = []
without_zeros (byte ∷ bytes) = unless_zeros byte (without_zeros bytes)
