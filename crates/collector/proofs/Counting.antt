-- Counts over a range, of two tests that agree but at one place.
use Rattle.std.proofs.Common.{◌≡◌, ◌≢◌, ◌⊎◌, inl, inr, ℕ, zero, suc, ◌+◌, ◌<◌, ◌≤◌, Bool, true, false, not, ◌&&◌, ◌==◌, cond, refl, sym, ap, ap₂, ◌∙◌, arith}
use Rattle.std.specs.List.{count_by, range_with_len}
use Rattle.std.proofs.lemmas.Bool.{cases_eq, cases_Bool, and_parts, eqb-true, eq-eqb, ne_eqb, false≢true}
use Rattle.std.proofs.lemmas.List.Sums.{sum_by-cons, count_by-le-length}
use Rattle.std.proofs.lemmas.List.FromFn.{length-range_with_len}

-- how many of the numbers below n pass
abbrev pub count_below : (ℕ → Bool) → ℕ → ℕ
count_below p n = count_by p (range_with_len 0 n)

-- one where a test passes
abbrev pub one_if : Bool → ℕ
one_if b = cond b 1 0

count_from : (ℕ → Bool) → ℕ → ℕ → ℕ
count_from p a n = count_by p (range_with_len a n)

more_from : (p : ℕ → Bool) (a n : ℕ) → count_from p a (suc n) ≡ one_if (p a) + count_from p (a + 1) n
unfolding count_from
more_from p a n = sum_by-cons (λ x. cond (p x) 1 0) a (range_with_len (a + 1) n)

same_from : (p q : ℕ → Bool) (a n : ℕ) → ((k : ℕ) → a ≤ k → k < a + n → p k ≡ q k) → count_from p a n ≡ count_from q a n
unfolding count_from
same_from p q a zero f = refl
same_from p q a (suc n) f = more_from p a n
    ∙ (ap₂ (λ (t : Bool) (m : ℕ). one_if t + m) (f a (omega arith) (omega arith)) (same_from p q (a + 1) n (λ k h l. f k (omega arith) (omega arith)))
    ∙ sym (more_from q a n))

fewer_from : (p q : ℕ → Bool) (a n at : ℕ) → a ≤ at → at < a + n → p at ≡ true → q at ≡ false → ((k : ℕ) → a ≤ k → k < a + n → k ≢ at → p k ≡ q k) → count_from p a n ≡ count_from q a n + 1
fewer_from p q a zero at h l passes fails f = absurd (omega arith)
fewer_from p q a (suc n) at h l passes fails f = elim (cases_eq a at) [
  | inl here ↦ (
      let first : one_if (p a) ≡ 1 = ap one_if (ap p here ∙ passes) in
      let first_fails : one_if (q a) ≡ 0 = ap one_if (ap q here ∙ fails) in
      let rest : count_from p (a + 1) n ≡ count_from q (a + 1) n = same_from p q (a + 1) n (λ k i j. f k (omega arith) (omega arith) (λ e. absurd (omega arith))) in
      omega (arith, more_from p a n, more_from q a n))
  | inr apart ↦ (
      let first : one_if (p a) ≡ one_if (q a) = ap one_if (f a (omega arith) (omega arith) apart) in
      let rest : count_from p (a + 1) n ≡ count_from q (a + 1) n + 1 = fewer_from p q (a + 1) n at (omega arith) (omega arith) passes fails (λ k i j. f k (omega arith) (omega arith)) in
      omega (arith, more_from p a n, more_from q a n))
]

none_from : (p : ℕ → Bool) (a n : ℕ) → ((k : ℕ) → a ≤ k → k < a + n → p k ≡ false) → count_from p a n ≡ 0
unfolding count_from
none_from p a zero f = refl
none_from p a (suc n) f =
    let here : p a ≡ false = f a (omega arith) (omega arith) in
    let first : one_if (p a) ≡ 0 = ap one_if here in
    let rest : count_from p (a + 1) n ≡ 0 = none_from p (a + 1) n (λ k h l. f k (omega arith) (omega arith)) in
    omega (arith, more_from p a n)

some_from : (p : ℕ → Bool) (a n at : ℕ) → a ≤ at → at < a + n → p at ≡ true → 0 < count_from p a n
some_from p a zero at h l passes = absurd (omega arith)
some_from p a (suc n) at h l passes = elim (cases_eq a at) [
  | inl here ↦ (let first : one_if (p a) ≡ 1 = ap one_if (ap p here ∙ passes) in omega (arith, more_from p a n))
  | inr apart ↦ omega (arith, more_from p a n, some_from p (a + 1) n at (omega arith) (omega arith) passes)
]

-- tests that agree count the same
pub same_count : (p q : ℕ → Bool) (n : ℕ) → ((k : ℕ) → k < n → p k ≡ q k) → count_below p n ≡ count_below q n
unfolding count_from
same_count p q n f = same_from p q 0 n (λ k h l. f k (omega arith))

-- one place that passed and passes no more: one less
pub count_drops : (p q : ℕ → Bool) (n at : ℕ) → at < n → p at ≡ true → q at ≡ false → ((k : ℕ) → k < n → k ≢ at → p k ≡ q k) → count_below p n ≡ count_below q n + 1
unfolding count_from
count_drops p q n at within passes fails f = fewer_from p q 0 n at (omega arith) (omega arith) passes fails (λ k h l. f k (omega arith))

-- one place that did not pass and passes now: one more
pub count_rises : (p q : ℕ → Bool) (n at : ℕ) → at < n → p at ≡ false → q at ≡ true → ((k : ℕ) → k < n → k ≢ at → p k ≡ q k) → count_below q n ≡ count_below p n + 1
count_rises p q n at within fails passes f = count_drops q p n at within passes fails (λ k h apart. sym (f k h apart))

-- where no place passes the count is zero
pub none_pass : (p : ℕ → Bool) (n : ℕ) → ((k : ℕ) → k < n → p k ≡ false) → count_below p n ≡ 0
unfolding count_from
none_pass p n f = none_from p 0 n (λ k h l. f k (omega arith))

-- where a place passes the count is above zero
pub one_passes : (p : ℕ → Bool) (n at : ℕ) → at < n → p at ≡ true → 0 < count_below p n
unfolding count_from
one_passes p n at within passes = some_from p 0 n at (omega arith) (omega arith) passes

-- a count of zero counts no place
pub none_passes : (p : ℕ → Bool) (n : ℕ) → count_below p n ≡ 0 → (k : ℕ) → k < n → p k ≡ false
none_passes p n e k within = elim (cases_Bool (p k)) [
  | inr false_here ↦ false_here
  | inl holds ↦ absurd (omega (arith, one_passes p n k within holds))
]

-- a count is at most the length of the range
pub few_pass : (p : ℕ → Bool) (n : ℕ) → count_below p n ≤ n
few_pass p n = omega (arith, count_by-le-length p (range_with_len 0 n), length-range_with_len 0 n)

-- a place below n that passes, or none
pub find_passing : (p : ℕ → Bool) (n : ℕ) → ((k : ℕ) × (k < n) × (p k ≡ true)) ⊎ ((k : ℕ) → k < n → p k ≡ false)
find_passing p zero = inr (λ k h. absurd (omega arith))
find_passing p (suc n) = elim (find_passing p n) [
  | inl found ↦ inl (found.0, omega (arith, found.1), found.2)
  | inr none ↦ elim (cases_Bool (p n)) [
    | inl passes ↦ inl (n, omega arith, passes)
    | inr fails ↦ inr (λ k h. elim (cases_eq k n) [
      | inl last ↦ ap p last ∙ fails
      | inr before ↦ none k (omega arith)
    ])
  ]
]

-- different numbers below m for different places that pass
pub record GivesApart (p : ℕ → Bool) (f : ℕ → ℕ) (n m : ℕ) : Type 0 where
  pub within : (k : ℕ) → k < n → p k ≡ true → f k < m
  pub apart : (j k : ℕ) → j < n → k < n → p j ≡ true → p k ≡ true → f j ≡ f k → j ≡ k

-- the test without one place
abbrev but_at : (ℕ → Bool) → ℕ → ℕ → Bool
but_at p at k = p k && not (k == at)

but_here : (p : ℕ → Bool) (at : ℕ) → but_at p at at ≡ false
but_here p at = ap (λ (t : Bool). p at && not t) (eq-eqb at at refl) ∙ and_false (p at)
  where
    and_false : (b : Bool) → (b && false) ≡ false
    and_false true = refl
    and_false false = refl

but_there : (p : ℕ → Bool) (at k : ℕ) → k ≢ at → p k ≡ but_at p at k
but_there p at k other = sym (ap (λ (t : Bool). p k && not t) (ne_eqb k at other) ∙ and_true (p k))
  where
    and_true : (b : Bool) → (b && true) ≡ b
    and_true true = refl
    and_true false = refl

-- no more places pass than there are numbers
pub apart_few : (p : ℕ → Bool) (f : ℕ → ℕ) (n m : ℕ) → GivesApart p f n m → count_below p n ≤ m
apart_few p f n zero gives = omega (
  arith,
  none_pass p n (λ k h. elim (cases_Bool (p k)) [
    | inl passes ↦ absurd (omega (arith, gives.within k h passes))
    | inr fails ↦ fails
  ]),
)
apart_few p f n (suc m) gives = elim (find_passing (λ k. p k && f k == m) n) [
  | inl found ↦ (
      let at : ℕ = found.0 in
      let both = and_parts (p at) (f at == m) found.2 in
      let top : f at ≡ m = eqb-true (f at) m both.1 in
      let fewer : count_below p n ≡ count_below (but_at p at) n + 1 = count_drops p (but_at p at) n at found.1 both.0 (but_here p at) (λ k h other. but_there p at k other) in
      let rest : count_below (but_at p at) n ≤ m = apart_few (but_at p at) f n m (record {
        within = λ k h passes.
            let parts = and_parts (p k) (not (k == at)) passes in
            let below : f k < suc m = gives.within k h parts.0 in
            let other : f k ≢ m = λ e. false≢true (sym (ap not (eq-eqb k at (gives.apart k at h found.1 parts.0 both.0 (e ∙ sym top)))) ∙ parts.1) in
            omega arith;
        apart = λ j k h l pj pk same. gives.apart j k h l (and_parts _ _ pj).0 (and_parts _ _ pk).0 same;
      }) in
      omega arith)
  | inr none ↦ (
      let rest : count_below p n ≤ m = apart_few p f n m (record {
        within = λ k h passes.
            let below : f k < suc m = gives.within k h passes in
            let other : f k ≢ m = λ e. false≢true (sym (none k h) ∙ ap₂ (λ (a b : Bool). a && b) passes (eq-eqb (f k) m e)) in
            omega arith;
        apart = gives.apart;
      }) in
      omega arith)
]

-- .. and fewer, where one number is not given
pub apart_fewer : (p : ℕ → Bool) (f : ℕ → ℕ) (n m hole : ℕ) → GivesApart p f n m → hole < m → ((k : ℕ) → k < n → p k ≡ true → f k ≢ hole) → count_below p n < m
apart_fewer p f n zero hole gives within missed = absurd (omega arith)
apart_fewer p f n (suc m) hole gives within missed =
    let few : count_below p n ≤ m = apart_few p moved n m (record {
      within = λ k h passes. moved_within k (gives.within k h passes) (missed k h passes) (cases_eq (f k) m);
      apart = λ j k h l pj pk same. gives.apart j k h l pj pk (moved_apart j k (missed j h pj) (missed k l pk) (cases_eq (f j) m) (cases_eq (f k) m) same);
    }) in
    omega arith
  where
    -- the last number in place of the missed one
    moved : ℕ → ℕ
    moved k = cond (f k == m) hole (f k)

    at_last : (k : ℕ) → f k ≡ m → moved k ≡ hole
    at_last k e = ap (λ (t : Bool). cond t hole (f k)) (eq-eqb (f k) m e)

    elsewhere : (k : ℕ) → f k ≢ m → moved k ≡ f k
    elsewhere k e = ap (λ (t : Bool). cond t hole (f k)) (ne_eqb (f k) m e)

    moved_within : (k : ℕ) → f k < suc m → f k ≢ hole → (f k ≡ m) ⊎ (f k ≢ m) → moved k < m
    moved_within k below other (inl last) = omega (arith, at_last k last)
    moved_within k below other (inr before) = omega (arith, elsewhere k before)

    moved_apart : (j k : ℕ) → f j ≢ hole → f k ≢ hole → (f j ≡ m) ⊎ (f j ≢ m) → (f k ≡ m) ⊎ (f k ≢ m) → moved j ≡ moved k → f j ≡ f k
    moved_apart j k a b (inl x) (inl y) same = x ∙ sym y
    moved_apart j k a b (inl x) (inr y) same = absurd (b (sym (elsewhere k y) ∙ (sym same ∙ at_last j x)))
    moved_apart j k a b (inr x) (inl y) same = absurd (a (sym (elsewhere j x) ∙ (same ∙ at_last k y)))
    moved_apart j k a b (inr x) (inr y) same = sym (elsewhere j x) ∙ (same ∙ elsewhere k y)

-- where the tests agree but at one place, the counts differ as the tests do there
pub count_moves : (p q : ℕ → Bool) (n at : ℕ) → at < n → ((k : ℕ) → k < n → k ≢ at → p k ≡ q k) → count_below q n + one_if (p at) ≡ count_below p n + one_if (q at)
count_moves p q n at within f = elim (cases_Bool (p at)) [
  | inl was ↦ elim (cases_Bool (q at)) [
    | inl is ↦ (
        let p_one : one_if (p at) ≡ 1 = ap one_if was in
        let q_one : one_if (q at) ≡ 1 = ap one_if is in
        omega (arith, same_count p q n (λ k h. elim (cases_eq k at) [ inl same ↦ ap p same ∙ (was ∙ sym (ap q same ∙ is)) | inr other ↦ f k h other ])))
    | inr is_not ↦ (
        let p_one : one_if (p at) ≡ 1 = ap one_if was in
        let q_none : one_if (q at) ≡ 0 = ap one_if is_not in
        omega (arith, count_drops p q n at within was is_not f))
  ]
  | inr was_not ↦ elim (cases_Bool (q at)) [
    | inl is ↦ (
        let p_none : one_if (p at) ≡ 0 = ap one_if was_not in
        let q_one : one_if (q at) ≡ 1 = ap one_if is in
        omega (arith, count_rises p q n at within was_not is f))
    | inr is_not ↦ (
        let p_none : one_if (p at) ≡ 0 = ap one_if was_not in
        let q_none : one_if (q at) ≡ 0 = ap one_if is_not in
        omega (arith, same_count p q n (λ k h. elim (cases_eq k at) [ inl same ↦ ap p same ∙ (was_not ∙ sym (ap q same ∙ is_not)) | inr other ↦ f k h other ])))
  ]
]
