-- A claim on every short word, computed: the tests of rows, one row after the other.
use Rattle.std.proofs.Common.{◌≡◌, ℕ, zero, suc, Bool, true, false, ◌&&◌, List, [], ◌∷◌, length, arith}
use Rattle.std.proofs.lemmas.Bool.{and_parts}
pub use Rattle.wom_code.specs.Tests.{is_same as same, is_carrying as carries_test}
pub use Rattle.wom_code.proofs.TestLemmas.{is_same_self as same_self, is_same_to as same_to, is_carrying_from as carries_from, is_carrying_to as carries_to}

-- a test of every row of n cells, with no list of them
abbrev pub all_rows : ℕ → (List Bool → Bool) → Bool
all_rows zero f = f []
all_rows (suc n) f = all_rows n (λ cells. f (true ∷ cells)) && all_rows n (λ cells. f (false ∷ cells))

pub all_rows_at : (n : ℕ) (f : List Bool → Bool) → all_rows n f ≡ true → (cells : List Bool) → length cells ≡ n → f cells ≡ true
all_rows_at zero f t [] e = t
all_rows_at zero f t (c ∷ cells) e = absurd (omega arith)
all_rows_at (suc n) f t [] e = absurd (omega arith)
all_rows_at (suc n) f t (true ∷ cells) e = all_rows_at n (λ rest. f (true ∷ rest)) (and_parts _ _ t).0 cells (omega arith)
all_rows_at (suc n) f t (false ∷ cells) e = all_rows_at n (λ rest. f (false ∷ rest)) (and_parts _ _ t).1 cells (omega arith)
