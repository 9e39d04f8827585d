-- Hexadecimal digits of bytes.
use Rattle.std.specs.Prelude.{◌≡◌, ℕ, ◌+◌, ◌-◌, length, slice_index, ◌/◌, ◌%◌, ◌^◌, ◌<◌, List, [], ◌∷◌, nat_lt, nat_le, ◌&&◌, ◌||◌, Bool, if◌then◌else◌}
use Rattle.std.specs.List.{flat_map, All}

-- `0` to `9` and `a` to `f`
abbrev pub hex_digit : ℕ → ℕ
hex_digit d = if nat_lt d 10 then 48 + d else 87 + d

-- whether the byte is such a digit
abbrev pub is_lower_digit : ℕ → Bool
is_lower_digit c = (nat_le 48 c && nat_le c 57) || (nat_le 97 c && nat_le c 102)

-- two digits for each byte, the higher first
abbrev pub hex_of : List ℕ → List ℕ
hex_of bytes = flat_map (λ byte. hex_digit (byte / 16) ∷ hex_digit (byte % 16) ∷ []) bytes

-- the digits of the bytes, or a dash for none
abbrev pub hex_or_dash : List ℕ → List ℕ
hex_or_dash [] = 45 ∷ []
hex_or_dash (byte ∷ bytes) = hex_of (byte ∷ bytes)

-- each is a byte
abbrev pub AreBytes : List ℕ → Type 0
AreBytes bytes = All (λ byte. byte < 2 ^ 8) bytes

-- the last byte, where there are any, is not zero
abbrev pub IsTrimmed : List ℕ → Type 0
IsTrimmed bytes = 0 < length bytes → slice_index bytes (length bytes - 1) ≡ 0 → ⊥
