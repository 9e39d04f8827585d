-- How many numbers of a range pass a test, when the test changes.
use Rattle.std.proofs.Common.{◌≡◌, ◌≢◌, ℕ, zero, suc, ◌+◌, ◌<◌, ◌≤◌, Bool, true, false, cond, List, [], ◌∷◌, length, get_or, add-zero, refl, ap, ap₂, sym, ◌∙◌, arith, ⊎_elim}
use Rattle.std.specs.List.{range_with_len, count_by}
use Rattle.std.proofs.lemmas.Bool.{cases_eq}
use Rattle.std.proofs.lemmas.List.Sums.{sum_by-cons}

count_cons : (p : ℕ → Bool) (x : ℕ) (xs : List ℕ) → count_by p (x ∷ xs) ≡ cond (p x) 1 0 + count_by p xs
count_cons p x xs = sum_by-cons (λ n. cond (p n) 1 0) x xs

-- two tests that agree
pub count_same : (p q : ℕ → Bool) (xs : List ℕ) → ((n : ℕ) → q n ≡ p n) → count_by q xs ≡ count_by p xs
count_same p q [] same = refl
count_same p q (x ∷ xs) same = count_cons q x xs ∙ (ap₂ (λ (b : Bool) (rest : ℕ). cond b 1 0 + rest) (same x) (count_same p q xs same) ∙ sym (count_cons p x xs))

-- two tests that agree on the range
pub count_same_range : (p q : ℕ → Bool) (a n : ℕ) → ((k : ℕ) → a ≤ k → k < a + n → q k ≡ p k) → count_by q (range_with_len a n) ≡ count_by p (range_with_len a n)
count_same_range p q a zero same = refl
count_same_range p q a (suc n) same =
    count_cons q a (range_with_len (a + 1) n)
    ∙ (ap₂ (λ (b : Bool) (rest : ℕ). cond b 1 0 + rest) (same a (omega arith) (omega arith)) (count_same_range p q (a + 1) n (λ k from to. same k (omega arith) (omega arith)))
    ∙ sym (count_cons p a (range_with_len (a + 1) n)))

-- one number of the range passes that did not, and all others as before
pub count_one_more : (p q : ℕ → Bool) (a n one : ℕ) → a ≤ one → one < a + n → p one ≡ false → q one ≡ true
    → ((k : ℕ) → a ≤ k → k < a + n → k ≢ one → q k ≡ p k) → count_by q (range_with_len a n) ≡ count_by p (range_with_len a n) + 1
count_one_more p q a zero one from to before after same = absurd (omega arith)
count_one_more p q a (suc n) one from to before after same = ⊎_elim
    (λ here. first (ap q (sym here) ∙ after) (ap p (sym here) ∙ before)
    (count_same_range p q (a + 1) n (λ k above below. same k (omega arith) (omega arith) (λ e. absurd (omega (arith, here))))))
    (λ apart. later (same a (omega arith) (omega arith) (λ e. apart (sym e)))
    (count_one_more p q (a + 1) n one (omega arith) (omega arith) before after (λ k above below. same k (omega arith) (omega arith))))
    (cases_eq one a)
  where
    -- the count of the rest, and of the first number
    more : (x y rest rest' : ℕ) → x + rest ≡ y + rest' + 1 → count_by q (range_with_len (a + 1) n) ≡ rest → count_by p (range_with_len (a + 1) n) ≡ rest'
        → cond (q a) 1 0 ≡ x → cond (p a) 1 0 ≡ y → count_by q (a ∷ range_with_len (a + 1) n) ≡ count_by p (a ∷ range_with_len (a + 1) n) + 1
    more x y rest rest' sum here there is was =
        omega (arith, count_cons q a (range_with_len (a + 1) n), count_cons p a (range_with_len (a + 1) n))

    first : q a ≡ true → p a ≡ false → count_by q (range_with_len (a + 1) n) ≡ count_by p (range_with_len (a + 1) n)
        → count_by q (a ∷ range_with_len (a + 1) n) ≡ count_by p (a ∷ range_with_len (a + 1) n) + 1
    first passes fails rest = more 1 0 _ (count_by p (range_with_len (a + 1) n)) (omega arith) rest refl (ap (λ b. cond b 1 0) passes) (ap (λ b. cond b 1 0) fails)

    later : q a ≡ p a → count_by q (range_with_len (a + 1) n) ≡ count_by p (range_with_len (a + 1) n) + 1
        → count_by q (a ∷ range_with_len (a + 1) n) ≡ count_by p (a ∷ range_with_len (a + 1) n) + 1
    later same rest = more (cond (p a) 1 0) (cond (p a) 1 0) _ (count_by p (range_with_len (a + 1) n)) (omega arith) rest refl (ap (λ b. cond b 1 0) same) refl

-- the flags that are set, where the flags tell the test
pub count_flags : (f : ℕ → Bool) (xs : List Bool) (a : ℕ) → ((k : ℕ) → k < length xs → get_or xs k true ≡ f (a + k)) → count_by (λ (b : Bool). b) xs ≡ count_by f (range_with_len a (length xs))
count_flags f [] a same = refl
count_flags f (x ∷ xs) a same =
    flag_cons x xs
    ∙ (ap₂ (λ (b : Bool) (rest : ℕ). cond b 1 0 + rest) (same 0 (omega arith) ∙ ap f (add-zero a)) (count_flags f xs (a + 1) (λ k below. same (suc k) (omega arith) ∙ ap f (omega arith)))
    ∙ sym (count_cons f a (range_with_len (a + 1) (length xs))))
  where
    flag_cons : (x : Bool) (xs : List Bool) → count_by (λ (b : Bool). b) (x ∷ xs) ≡ cond x 1 0 + count_by (λ (b : Bool). b) xs
    flag_cons x xs = sum_by-cons (λ (b : Bool). cond b 1 0) x xs
