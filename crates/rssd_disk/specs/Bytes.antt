-- Rows of bytes that lie one after another.
use Rattle.std.specs.Prelude.{ℕ, ◌+◌, ◌*◌, ◌/◌, ◌%◌, List, [], ◌++◌, length, take, drop, map, get_or}
use Rattle.std.specs.List.{range_with_len}

-- the byte at a place, where each row is of this size
abbrev pub byte_at : ℕ → List (List ℕ) → ℕ → ℕ
byte_at size rows place = get_or (get_or rows (place / size) []) (place % size) 0

-- so many rows of this size, one after another
unfoldable pub joined : ℕ → ℕ → List (List ℕ) → List ℕ
joined size count rows = map (byte_at size rows) (range_with_len 0 (count * size))

-- the bytes from a place on are replaced
unfoldable pub put : ℕ → List ℕ → List ℕ → List ℕ
put place bytes all = take place all ++ bytes ++ drop (place + length bytes) all

-- so many bytes from a place on
abbrev pub part_of : ℕ → ℕ → List ℕ → List ℕ
part_of place count all = take count (drop place all)
