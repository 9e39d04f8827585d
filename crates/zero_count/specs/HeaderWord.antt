-- Header words: the fields of a header, and then the number of their zero bits.
use Rattle.std.specs.Prelude.{ℕ, ◌-◌, ◌^◌, ◌<◌, ◌≤◌, Bool, List, [], ◌∷◌, ◌++◌, take, drop, length, ◌&&◌, ◌==◌, nat_lt, nat_le, slice_index, count_ones, if◌then◌else◌, Option, Some, None}
use Rattle.std.specs.Int.{w32, w64, to_le_bytes, from_le_bytes}
use Rattle.std.specs.List.{list_all, sum_by}
use Rattle.zero_count.specs.declared.Header.{Header}

-- the number of zero bits of the bytes
abbrev pub zero_bits : List ℕ → ℕ
zero_bits bytes = sum_by (λ byte. 8 - count_ones byte) bytes

-- a header has a kind of 1 to 4, and numbers of its fields' types
pub record IsHeader (header : Header) : Type 0 where
  pub sector : header.sector < 2 ^ 32
  pub seq : header.seq < 2 ^ 64
  pub least_kind : 1 ≤ header.kind
  pub greatest_kind : header.kind ≤ 4

-- the first 13 bytes: sector, seq and kind
abbrev pub fields : Header → List ℕ
fields header = to_le_bytes w32 header.sector ++ to_le_bytes w64 header.seq ++ header.kind ∷ []

-- the header's word: the fields, and the number of their zero bits
unfoldable pub spelling : Header → List ℕ
spelling header = fields header ++ zero_bits (fields header) ∷ []

-- a word is valid: 14 bytes whose last is the number of zero bits of the first 13, with a kind of 1 to 4
unfoldable pub is_valid : List ℕ → Bool
is_valid word =
    length word == 14 && list_all (λ byte. nat_lt byte 256) word
    && zero_bits (take 13 word) == slice_index word 13
    && nat_le 1 (slice_index word 12) && nat_le (slice_index word 12) 4

-- the header that a valid word spells, and none of any other bytes
unfoldable pub header_of : List ℕ → Option Header
header_of word =
    if is_valid word
    then Some (record { sector = from_le_bytes w32 (take 4 word); seq = from_le_bytes w64 (take 8 (drop 4 word)); kind = slice_index word 12 })
    else None
