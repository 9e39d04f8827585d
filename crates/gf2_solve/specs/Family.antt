-- What callers see of a basis.
use Rattle.std.specs.Prelude.{ℕ, List}

-- the vectors taken, in order, and the tag of each
pub record Family : Type 0 where
  pub columns : List ℕ
  pub tags : List ℕ

abbrev pub family : List ℕ → List ℕ → Family
family columns tags = record { columns = columns; tags = tags }
