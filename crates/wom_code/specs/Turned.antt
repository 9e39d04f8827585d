-- Bits that stand in cells as they are, or turned: each inverted.
use Rattle.std.specs.Prelude.{◌≡◌, ℕ, ◌-◌, Bool, false, not, refl, if◌then◌else◌, List, [], ◌∷◌, map, nat_lt}
use Rattle.std.proofs.Common.{ap}
use Rattle.wom_code.specs.Packed.{word_bit}

-- the bits, each inverted where they are turned
abbrev pub turned_by : Bool → List Bool → List Bool
turned_by turned bits = map (λ bit. if turned then not bit else bit) bits

-- bit i of the first bits of packed words, inverted where they are turned; there is none past them
abbrev pub front_bit : Bool → ℕ → List ℕ → ℕ → ℕ
front_bit turned count words i = if nat_lt i count then (if turned then 1 - word_bit words i else word_bit words i) else 0

-- bits that are not turned are as they were
pub turned_false : (bits : List Bool) → turned_by false bits ≡ bits
turned_false [] = refl
turned_false (bit ∷ bits) = ap (λ more. bit ∷ more) (turned_false bits)
