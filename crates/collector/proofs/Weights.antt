-- Sums over a range, of two weights that agree but at one place.
use Rattle.std.proofs.Common.{◌≡◌, ◌≢◌, inl, inr, ℕ, zero, suc, ◌+◌, ◌<◌, ◌≤◌, refl, sym, ap, ap₂, ◌∙◌, arith}
use Rattle.std.specs.List.{sum_by, range_with_len}
use Rattle.std.proofs.lemmas.Bool.{cases_eq}
use Rattle.std.proofs.lemmas.List.Sums.{sum_by-cons}

sum_from : (ℕ → ℕ) → ℕ → ℕ → ℕ
sum_from f a n = sum_by f (range_with_len a n)

more_from : (f : ℕ → ℕ) (a n : ℕ) → sum_from f a (suc n) ≡ f a + sum_from f (a + 1) n
unfolding sum_from
more_from f a n = sum_by-cons f a (range_with_len (a + 1) n)

same_from : (f h : ℕ → ℕ) (a n : ℕ) → ((k : ℕ) → a ≤ k → k < a + n → h k ≡ f k) → sum_from h a n ≡ sum_from f a n
unfolding sum_from
same_from f h a zero e = refl
same_from f h a (suc n) e = more_from h a n
    ∙ (ap₂ (λ (x y : ℕ). x + y) (e a (omega arith) (omega arith)) (same_from f h (a + 1) n (λ k i j. e k (omega arith) (omega arith)))
    ∙ sym (more_from f a n))

rise_from : (f h : ℕ → ℕ) (a n at w : ℕ) → a ≤ at → at < a + n → h at ≡ f at + w → ((k : ℕ) → a ≤ k → k < a + n → k ≢ at → h k ≡ f k) → sum_from h a n ≡ sum_from f a n + w
rise_from f h a zero at w i j more e = absurd (omega arith)
rise_from f h a (suc n) at w i j more e = elim (cases_eq a at) [
  | inl here ↦ (
      let first : h a ≡ f a + w = ap h here ∙ (more ∙ ap (λ (z : ℕ). f z + w) (sym here)) in
      let rest : sum_from h (a + 1) n ≡ sum_from f (a + 1) n = same_from f h (a + 1) n (λ k p q. e k (omega arith) (omega arith) (λ same. absurd (omega arith))) in
      omega (arith, more_from h a n, more_from f a n))
  | inr apart ↦ (
      let first : h a ≡ f a = e a (omega arith) (omega arith) apart in
      let rest : sum_from h (a + 1) n ≡ sum_from f (a + 1) n + w = rise_from f h (a + 1) n at w (omega arith) (omega arith) more (λ k p q. e k (omega arith) (omega arith)) in
      omega (arith, more_from h a n, more_from f a n))
]

le_from : (f h : ℕ → ℕ) (a n : ℕ) → ((k : ℕ) → f k ≤ h k) → sum_from f a n ≤ sum_from h a n
unfolding sum_from
le_from f h a zero e = omega arith
le_from f h a (suc n) e = omega (arith, more_from f a n, more_from h a n, e a, le_from f h (a + 1) n e)

-- the sum of the weights of the numbers below n
abbrev pub sum_below : (ℕ → ℕ) → ℕ → ℕ
sum_below f n = sum_by f (range_with_len 0 n)

-- weights that agree have one sum
pub same_sum : (f h : ℕ → ℕ) (n : ℕ) → ((k : ℕ) → k < n → h k ≡ f k) → sum_below h n ≡ sum_below f n
unfolding sum_from
same_sum f h n e = same_from f h 0 n (λ k i j. e k (omega arith))

-- one place that weighs more
pub sum_rises : (f h : ℕ → ℕ) (n at w : ℕ) → at < n → h at ≡ f at + w → ((k : ℕ) → k < n → k ≢ at → h k ≡ f k) → sum_below h n ≡ sum_below f n + w
unfolding sum_from
sum_rises f h n at w within more e = rise_from f h 0 n at w (omega arith) (omega arith) more (λ k i j. e k (omega arith))

-- lower weights have a lower sum
pub sum_lower : (f h : ℕ → ℕ) (n : ℕ) → ((k : ℕ) → f k ≤ h k) → sum_below f n ≤ sum_below h n
unfolding sum_from
sum_lower f h n e = le_from f h 0 n e

zero_from : (f : ℕ → ℕ) (a n : ℕ) → ((k : ℕ) → a ≤ k → k < a + n → f k ≡ 0) → sum_from f a n ≡ 0
unfolding sum_from
zero_from f a zero e = refl
zero_from f a (suc n) e = omega (arith, more_from f a n, e a (omega arith) (omega arith), zero_from f (a + 1) n (λ k i j. e k (omega arith) (omega arith)))

-- no weight, no sum
pub zero_sum : (f : ℕ → ℕ) (n : ℕ) → ((k : ℕ) → k < n → f k ≡ 0) → sum_below f n ≡ 0
unfolding sum_from
zero_sum f n e = zero_from f 0 n (λ k i j. e k (omega arith))
