-- Filters and places in the order: what a block leaves behind where it goes to the back or leaves.
use Rattle.std.proofs.Common.{◌≡◌, ℕ, ◌+◌, ◌≤◌, inl, inr, Bool, true, false, cond, eqb, List, [], ◌∷◌, ◌++◌, refl, sym, ap, ◌∙◌, subst, arith}
use Rattle.std.specs.List.{filter, position_or_len}
use Rattle.std.proofs.lemmas.Bool.{cases_eq, cases_Bool, eq-eqb, ne_eqb, false≢true}
use Rattle.block_links.specs.Lists.{times, without}
use Rattle.block_links.proofs.Times.{times-head, times-tail, times-append, times-without_same, times-without_other}
use Rattle.block_state.specs.Book.{reordered}

abbrev one_if : Bool → ℕ
one_if b = cond b 1 0

-- a filter of a list without b, where the tests agree but at b
pub filter-without : (p q : ℕ → Bool) (b : ℕ) → ((x : ℕ) → (x ≡ b → ⊥) → q x ≡ p x) → (xs : List ℕ) → filter q (without b xs) ≡ without b (filter p xs)
filter-without p q b agree [] = refl
filter-without p q b agree (x ∷ xs) = elim (cases_eq x b) [
  | inl same ↦ elim (cases_Bool (p x)) [
    | inl hit ↦ rw (hit, eq-eqb x b same) (filter-without p q b agree xs)
    | inr miss ↦ rw (miss, eq-eqb x b same) (filter-without p q b agree xs)
  ]
  | inr other ↦ elim (cases_Bool (p x)) [
    | inl hit ↦ rw (ne_eqb x b other, agree x other, hit, ne_eqb x b other) (ap (λ ys. x ∷ ys) (filter-without p q b agree xs))
    | inr miss ↦ rw (ne_eqb x b other, agree x other, miss) (filter-without p q b agree xs)
  ]
]

pub times-filter : (p : ℕ → Bool) (v : ℕ) (xs : List ℕ) → p v ≡ true → times v (filter p xs) ≡ times v xs
times-filter p v [] passes = refl
times-filter p v (x ∷ xs) passes = elim (cases_Bool (p x)) [
  | inl hit ↦ rw hit (ap (λ n. cond (eqb x v) 1 0 + n) (times-filter p v xs passes))
  | inr miss ↦ rw miss (times-filter p v xs passes ∙ sym (times-tail v x xs (λ same. false≢true (sym miss ∙ ap p same ∙ passes))))
]

pub times-filter-le : (p : ℕ → Bool) (v : ℕ) (xs : List ℕ) → times v (filter p xs) ≤ times v xs
times-filter-le p v [] = omega arith
times-filter-le p v (x ∷ xs) = elim (cases_Bool (p x)) [
  | inl hit ↦ rw hit (omega (arith, times-filter-le p v xs))
  | inr miss ↦ rw miss (omega (arith, times-filter-le p v xs))
]

pub times-filter_none : (p : ℕ → Bool) (v : ℕ) (xs : List ℕ) → p v ≡ false → times v (filter p xs) ≡ 0
times-filter_none p v [] fails = refl
times-filter_none p v (x ∷ xs) fails = elim (cases_Bool (p x)) [
  | inl hit ↦ rw hit (times-tail v x (filter p xs) (λ same. false≢true (sym fails ∙ sym (ap p same) ∙ hit)) ∙ times-filter_none p v xs fails)
  | inr miss ↦ rw miss (times-filter_none p v xs fails)
]

-- of the elements that pass, the first one that a filter keeps stands first
pub first_of_filter : (p : ℕ → Bool) (y c : ℕ) (ys xs : List ℕ) → filter p xs ≡ y ∷ ys → p y ≡ true → p c ≡ true → position_or_len (λ x. eqb x y) xs ≤ position_or_len (λ x. eqb x c) xs
first_of_filter p y c ys [] is py pc = omega arith
first_of_filter p y c ys (x ∷ xs) is py pc = elim (cases_Bool (p x)) [
  | inl hit ↦ let e = rw hit at is in let same : x ≡ y = cc in rw (eq-eqb x y same) (omega arith)
  | inr miss ↦ rw (ne_eqb x y (λ s. false≢true (sym miss ∙ ap p s ∙ py)), ne_eqb x c (λ s. false≢true (sym miss ∙ ap p s ∙ pc)))
      (omega (arith, first_of_filter p y c ys xs (rw miss at is) py pc))
]

-- how often a block stands in the order after it changed
pub times-reordered_same : (was now : Bool) (b : ℕ) (xs : List ℕ) → times b xs ≡ one_if was → times b (reordered was now b xs) ≡ one_if now
times-reordered_same false false b xs is = is
times-reordered_same false true b xs is = omega (arith, times-append b xs (b ∷ []), times-head b [])
times-reordered_same true false b xs is = times-without_same b xs
times-reordered_same true true b xs is = is

pub times-reordered_other : (was now : Bool) (b c : ℕ) (xs : List ℕ) → (c ≡ b → ⊥) → times c (reordered was now b xs) ≡ times c xs
times-reordered_other false false b c xs other = refl
times-reordered_other false true b c xs other = omega (arith, times-append c xs (b ∷ []), times-tail c b [] (λ s. other (sym s)))
times-reordered_other true false b c xs other = times-without_other c b xs other
times-reordered_other true true b c xs other = refl

-- how often a block stands in the order after b went to its back
pub times-moved_back : (b c : ℕ) (xs : List ℕ) → times b xs ≡ 1 → times c (without b xs ++ b ∷ []) ≡ times c xs
times-moved_back b c xs once = elim (cases_eq c b) [
  | inl same ↦ subst (λ (d : ℕ). times d (without b xs ++ b ∷ []) ≡ times d xs) (sym same) (omega (arith, times-append b (without b xs) (b ∷ []), times-without_same b xs, times-head b []))
  | inr other ↦ omega (arith, times-append c (without b xs) (b ∷ []), times-without_other c b xs other, times-tail c b [] (λ s. other (sym s)))
]
