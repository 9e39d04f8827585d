-- The code of Rivest and Shamir (1982): two bits in three cells.
use Rattle.std.specs.Prelude.{◌≡◌, ◌<◌, ◌⊎◌, Bool, true, false, not, ◌||◌, refl, if◌then◌else◌, List, [], ◌∷◌, length, nat_lt}
use Rattle.std.specs.List.{list_all}
use Rattle.std.proofs.Common.{arith}
use Rattle.wom_code.specs.Cells.{cell_at, Carries, charge_of}
use Rattle.wom_code.specs.Tests.{is_same, is_carrying, all_rows}

-- the sum of two bits over GF(2)
abbrev pub differ : Bool → Bool → Bool
differ a b = if a then not b else b

-- of cells a, b, c, the bits b xor c and a xor c
abbrev pub message_of : List Bool → List Bool
message_of cells = differ (cell_at cells 1) (cell_at cells 2) ∷ differ (cell_at cells 0) (cell_at cells 2) ∷ []

-- all other cells that carry the message over the old ones have more charge
abbrev pub IsLeast : List Bool → List Bool → List Bool → Type 0
IsLeast old message new = (cells : List Bool) → length cells ≡ 3 → Carries message_of old message cells → (cells ≡ new) ⊎ (charge_of new < charge_of cells)

-- The same as a test: each row of three cells that carries the message over the old ones is the new one, or has more charged cells.
unfoldable pub is_least : List Bool → List Bool → List Bool → Bool
is_least old message new =
    list_all (λ cells. not (is_carrying message_of old message cells) || (is_same cells new || nat_lt (charge_of new) (charge_of cells))) (all_rows 3)

-- each message has a word
pub word_for : (message : List Bool) → length message ≡ 2 → (cells : List Bool) × (length cells ≡ 3) × (message_of cells ≡ message)
word_for [] e = absurd (omega arith)
word_for (p ∷ []) e = absurd (omega arith)
word_for (true ∷ true ∷ []) e = (true ∷ true ∷ false ∷ [], refl, refl)
word_for (true ∷ false ∷ []) e = (false ∷ true ∷ false ∷ [], refl, refl)
word_for (false ∷ true ∷ []) e = (true ∷ false ∷ false ∷ [], refl, refl)
word_for (false ∷ false ∷ []) e = (false ∷ false ∷ false ∷ [], refl, refl)
word_for (p ∷ q ∷ r ∷ rs) e = absurd (omega arith)
