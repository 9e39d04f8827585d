-- The comparison of the same bytes.
use Rattle.std.proofs.Common.{◌≡◌, ℕ, true, List, nat_eq}
use Rattle.std.specs.Cmp.Lexicographic.{pointwise, bytes_decides}

pub same_bytes : (xs ys : List ℕ) → xs ≡ ys → pointwise nat_eq xs ys ≡ true
same_bytes xs ys e = (bytes_decides xs ys).1 e
