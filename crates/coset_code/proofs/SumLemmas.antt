-- Sums of columns below a cell; free sums; at most one basis solution.
use Rattle.std.proofs.Common.{◌≡◌, ◌≢◌, ℕ, zero, suc, ◌+◌, ◌^◌, ◌<◌, ◌⊎◌, Bool, true, false, cond, List, get_or, bit_xor, sym, ◌∙◌, ap, subst, refl, inl, inr, arith}
use Rattle.std.specs.Int.Bits.{xor_assoc, xor_comm, xor_self, xor_zero_r, xor_lt}
use Rattle.std.proofs.lemmas.Nat.{pow_pos}
use Rattle.std.proofs.lemmas.Bool.{cases_eq, cases_lt, true≢false, false_from_ne_true}
use Rattle.gf2_solve.proofs.XorLemmas.{xor_swap, xor_twice}
use Rattle.wom_code.specs.Cells.{cell_at, IsAbove}
use Rattle.coset_code.specs.Sums.{sum_below, IsFreeSum}
use Rattle.coset_code.specs.Solution.{IsBasisSolution}

-- a sum is as narrow as the columns
pub sum_below_lt : (columns : List ℕ) (k : ℕ) → ((i : ℕ) → get_or columns i 0 < 2 ^ k) → (cells : List Bool) (n : ℕ) → sum_below columns cells n < 2 ^ k
unfolding sum_below
sum_below_lt columns k h cells zero = pow_pos k
sum_below_lt columns k h cells (suc n) = xor_lt k _ _ (narrow (cell_at cells n)) (sum_below_lt columns k h cells n)
  where
    narrow : (b : Bool) → cond b (get_or columns n 0) 0 < 2 ^ k
    narrow true = h n
    narrow false = pow_pos k

-- cells that agree below n have one sum
pub sum_below_same : (columns : List ℕ) (a b : List Bool) (n : ℕ) → ((i : ℕ) → i < n → cell_at a i ≡ cell_at b i) → sum_below columns a n ≡ sum_below columns b n
unfolding sum_below
sum_below_same columns a b zero h = refl
sum_below_same columns a b (suc n) h =
    ap (λ t. bit_xor (cond t (get_or columns n 0) 0) (sum_below columns a n)) (h n (omega arith))
    ∙ ap (bit_xor (cond (cell_at b n) (get_or columns n 0) 0)) (sum_below_same columns a b n (λ i l. h i (omega arith)))

-- one cell more is charged
pub sum_below_charged : (columns : List ℕ) (old new : List Bool) (c : ℕ) → cell_at old c ≡ false → cell_at new c ≡ true → ((i : ℕ) → i ≢ c → cell_at new i ≡ cell_at old i) →
    (n : ℕ) → c < n → sum_below columns new n ≡ bit_xor (get_or columns c 0) (sum_below columns old n)
unfolding sum_below
sum_below_charged columns old new c o w h zero l = absurd (omega arith)
sum_below_charged columns old new c o w h (suc n) l =
    elim (cases_eq n c) [
      | inl same ↦
          let now : cell_at new n ≡ true = ap (cell_at new) same ∙ w in
          let before : cell_at old n ≡ false = ap (cell_at old) same ∙ o in
          ap (λ t. bit_xor (cond t (get_or columns n 0) 0) (sum_below columns new n)) now
          ∙ ap (λ k. bit_xor (get_or columns k 0) (sum_below columns new n)) same
          ∙ ap (bit_xor (get_or columns c 0)) (sum_below_same columns new old n (λ i b. h i (omega arith))
          ∙ sym (ap (λ t. bit_xor (cond t (get_or columns n 0) 0) (sum_below columns old n)) before))
      | inr other ↦
          ap (λ t. bit_xor (cond t (get_or columns n 0) 0) (sum_below columns new n)) (h n other)
          ∙ ap (bit_xor (cond (cell_at old n) (get_or columns n 0) 0)) (sum_below_charged columns old new c o w h n (omega arith))
          ∙ turn (cond (cell_at old n) (get_or columns n 0) 0) (get_or columns c 0) (sum_below columns old n)
    ]
  where
    turn : (x y z : ℕ) → bit_xor x (bit_xor y z) ≡ bit_xor y (bit_xor x z)
    turn x y z = sym (xor_assoc x y z) ∙ ap (λ v. bit_xor v z) (xor_comm x y) ∙ xor_assoc y x z

-- the free sums are closed under addition
pub free_sum-xor : (columns : List ℕ) (old : List Bool) (n a b : ℕ) → IsFreeSum columns old n a → IsFreeSum columns old n b → IsFreeSum columns old n (bit_xor a b)
unfolding IsFreeSum
free_sum-xor columns old zero a b p q = ap (λ x. bit_xor x b) p ∙ q
free_sum-xor columns old (suc n) a b (inl p) (inl q) = inl (free_sum-xor columns old n a b p q)
free_sum-xor columns old (suc n) a b (inl p) (inr q) =
    let v : ℕ = get_or columns n 0 in
    let P : ℕ → Type 0 = IsFreeSum columns old n in
    inr (q.0, subst P (sym (xor_assoc a v b) ∙ ap (λ x. bit_xor x b) (xor_comm a v) ∙ xor_assoc v a b) (free_sum-xor columns old n a (bit_xor v b) p q.1))
free_sum-xor columns old (suc n) a b (inr p) (inl q) =
    let v : ℕ = get_or columns n 0 in
    let P : ℕ → Type 0 = IsFreeSum columns old n in
    inr (p.0, subst P (xor_assoc v a b) (free_sum-xor columns old n (bit_xor v a) b p.1 q))
free_sum-xor columns old (suc n) a b (inr p) (inr q) =
    let v : ℕ = get_or columns n 0 in
    let P : ℕ → Type 0 = IsFreeSum columns old n in
    inl (subst P (xor_swap v a v b ∙ ap (λ x. bit_xor x (bit_xor a b)) (xor_self v)) (free_sum-xor columns old n (bit_xor v a) (bit_xor v b) p.1 q.1))

-- cells above the old ones differ from them by a free sum
pub above_free_sum : (columns : List ℕ) (old new : List Bool) → IsAbove new old → (n : ℕ) → IsFreeSum columns old n (bit_xor (sum_below columns old n) (sum_below columns new n))
unfolding sum_below IsFreeSum
above_free_sum columns old new h zero = refl
above_free_sum columns old new h (suc n) = by_cell (cell_at old n) (cell_at new n) refl refl (above_free_sum columns old new h n)
  where
    v : ℕ
    v = get_or columns n 0

    s : ℕ
    s = sum_below columns old n

    t : ℕ
    t = sum_below columns new n

    P : ℕ → Type 0
    P = IsFreeSum columns old n

    by_cell : (o w : Bool) → cell_at old n ≡ o → cell_at new n ≡ w → IsFreeSum columns old n (bit_xor s t) →
        IsFreeSum columns old n (bit_xor (bit_xor (cond o v 0) s) (bit_xor (cond w v 0) t))
        ⊎ ((cell_at old n ≡ false) × IsFreeSum columns old n (bit_xor v (bit_xor (bit_xor (cond o v 0) s) (bit_xor (cond w v 0) t))))
    by_cell true true e f r = inl (subst P (sym (xor_swap v s v t ∙ ap (λ x. bit_xor x (bit_xor s t)) (xor_self v))) r)
    by_cell true false e f r = absurd (true≢false (sym (h n e) ∙ f))
    by_cell false false e f r = inl r
    by_cell false true e f r =
        inr (e, subst P (sym (ap (bit_xor v) (sym (xor_assoc s v t) ∙ ap (λ x. bit_xor x t) (xor_comm s v) ∙ xor_assoc v s t) ∙ xor_twice v (bit_xor s t))) r)

-- one cell more in the sum
pub sum_below_more : (columns : List ℕ) (cells : List Bool) (n : ℕ) (b : Bool) → cell_at cells n ≡ b
    → sum_below columns cells (n + 1) ≡ bit_xor (cond b (get_or columns n 0) 0) (sum_below columns cells n)
unfolding sum_below
sum_below_more columns cells n b e =
    let next : n + 1 ≡ suc n = omega arith in
    ap (sum_below columns cells) next ∙ ap (λ t. bit_xor (cond t (get_or columns n 0) 0) (sum_below columns cells n)) e

pub sum_below-zero : (columns : List ℕ) (cells : List Bool) → sum_below columns cells 0 ≡ 0
unfolding sum_below
sum_below-zero columns cells = refl

-- two rows above the old one, both solution, with one sum, are one
pub solution_unique : (columns : List ℕ) (old a b : List Bool) → IsAbove a old → IsAbove b old → IsBasisSolution columns old a → IsBasisSolution columns old b →
    (n : ℕ) → sum_below columns a n ≡ sum_below columns b n → (i : ℕ) → i < n → cell_at a i ≡ cell_at b i
unfolding sum_below
solution_unique columns old a b aa ab la lb zero e i h = absurd (omega arith)
solution_unique columns old a b aa ab la lb (suc n) e i h = by_cell (cell_at a n) (cell_at b n) refl refl (solution_unique columns old a b aa ab la lb n)
  where
    v : ℕ
    v = get_or columns n 0

    s : ℕ
    s = sum_below columns a n

    t : ℕ
    t = sum_below columns b n

    split : (x y : Bool) → cell_at a n ≡ x → cell_at b n ≡ y → bit_xor (cond x v 0) s ≡ bit_xor (cond y v 0) t
    split x y p q = ap (λ z. bit_xor (cond z v 0) s) (sym p) ∙ e ∙ ap (λ z. bit_xor (cond z v 0) t) q

    free : IsFreeSum columns old n (bit_xor s t)
    free =
        let u : ℕ = sum_below columns old n in
        let P : ℕ → Type 0 = IsFreeSum columns old n in
        subst P (xor_swap u s u t ∙ ap (λ x. bit_xor x (bit_xor s t)) (xor_self u))
        (free_sum-xor columns old n (bit_xor u s) (bit_xor u t) (above_free_sum columns old a aa n) (above_free_sum columns old b ab n))

    unset : (cells : List Bool) → IsAbove cells old → cell_at cells n ≡ false → cell_at old n ≡ false
    unset cells above f = false_from_ne_true (cell_at old n) (λ o. true≢false (sym (above n o) ∙ f))

    last : cell_at a n ≡ cell_at b n → ((j : ℕ) → j < n → cell_at a j ≡ cell_at b j) → cell_at a i ≡ cell_at b i
    last here below = elim (cases_lt i n) [ inl l ↦ below i l | inr m ↦ let k : i ≡ n = omega arith in ap (cell_at a) k ∙ here ∙ sym (ap (cell_at b) k) ]

    by_cell : (x y : Bool) → cell_at a n ≡ x → cell_at b n ≡ y → (s ≡ t → (j : ℕ) → j < n → cell_at a j ≡ cell_at b j) → cell_at a i ≡ cell_at b i
    by_cell false false p q ih = last (p ∙ sym q) (ih (split false false p q))
    by_cell true true p q ih = last (p ∙ sym q) (ih (sym (xor_twice v s) ∙ ap (bit_xor v) (split true true p q) ∙ xor_twice v t))
    by_cell true false p q ih =
        let P : ℕ → Type 0 = IsFreeSum columns old n in
        let w : bit_xor s t ≡ v = ap (bit_xor s) (sym (split true false p q)) ∙ ap (bit_xor s) (xor_comm v s) ∙ xor_twice s v in
        absurd (la n (unset b ab q) p (subst P w free))
    by_cell false true p q ih =
        let P : ℕ → Type 0 = IsFreeSum columns old n in
        let w : bit_xor s t ≡ v = ap (λ x. bit_xor x t) (split false true p q) ∙ xor_assoc v t t ∙ ap (bit_xor v) (xor_self t) ∙ xor_zero_r v in
        absurd (lb n (unset a aa p) q (subst P w free))
