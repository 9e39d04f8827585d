-- What a filter keeps of a list of numbers.
use Rattle.std.proofs.Common.{◌≡◌, ℕ, ◌<◌, inl, inr, Bool, List, [], ◌∷◌, refl, ap, arith}
use Rattle.std.specs.List.{filter}
use Rattle.std.proofs.lemmas.Bool.{cases_Bool}
use Rattle.block_links.specs.Lists.{times}
use Rattle.block_links.proofs.Times.{times-head}

-- tests that agree on the numbers of a list keep the same of them
pub filter-agree : (p q : ℕ → Bool) (xs : List ℕ) → ((n : ℕ) → 0 < times n xs → p n ≡ q n) → filter p xs ≡ filter q xs
filter-agree p q [] agree = refl
filter-agree p q (x ∷ xs) agree =
    let here = agree x (let t = times-head x xs in omega arith) in
    let rest = filter-agree p q xs (λ n some. agree n (omega arith)) in
    elim (cases_Bool (q x)) [
      | inl hit ↦ rw (here, hit) (ap (λ ys. x ∷ ys) rest)
      | inr miss ↦ rw (here, miss) rest
    ]
