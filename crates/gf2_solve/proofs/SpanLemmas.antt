-- Sums of vectors: closed under addition, and one vector more.
use Rattle.std.proofs.Common.{◌≡◌, ℕ, zero, suc, ◌*◌, ◌/◌, ◌%◌, ◌^◌, ◌<◌, List, [], ◌∷◌, ◌++◌, length, get_or, bit_xor, sym, ◌∙◌, ap, subst, refl, inl, inr, arith}
use Rattle.std.specs.Int.{bit_at}
use Rattle.std.specs.Int.Bits.{xor_assoc, xor_comm, xor_self, xor_zero_r, xor_shr, xor_mod}
use Rattle.std.proofs.lemmas.Nat.Bits.{bit_at_lowest, bit_at-suc, bit_at_above, bit_at-pow_same}
use Rattle.std.proofs.lemmas.Nat.{mod_below}
use Rattle.std.proofs.Math.Nat.{pow-suc}
use Rattle.gf2_solve.specs.Span.{subset_sum, IsSpanned}
use Rattle.gf2_solve.proofs.XorLemmas.{xor_swap, xor_twice, xor-mul, xor_none, xor_once, cases_digit}

-- the sum of two sets' sums
pub subset_sum-xor : (a b : ℕ) (vs : List ℕ) → subset_sum (bit_xor a b) vs ≡ bit_xor (subset_sum a vs) (subset_sum b vs)
subset_sum-xor a b [] = refl
subset_sum-xor a b (v ∷ vs) =
    ap (λ x. bit_xor (x * v) (subset_sum (bit_xor a b / 2) vs)) (xor_mod a b 1)
    ∙ ap (λ x. bit_xor x (subset_sum (bit_xor a b / 2) vs)) (xor-mul (a % 2) (b % 2) v (mod_below a 2 (omega arith)) (mod_below b 2 (omega arith)))
    ∙ ap (bit_xor (bit_xor (a % 2 * v) (b % 2 * v))) (ap (λ s. subset_sum s vs) (xor_shr a b 1) ∙ subset_sum-xor (a / 2) (b / 2) vs)
    ∙ xor_swap (a % 2 * v) (b % 2 * v) (subset_sum (a / 2) vs) (subset_sum (b / 2) vs)

-- the sum of no vector
pub subset_sum-zero : (vs : List ℕ) → subset_sum 0 vs ≡ 0
subset_sum-zero [] = refl
subset_sum-zero (v ∷ vs) = xor_none 0 v (subset_sum 0 vs) refl ∙ subset_sum-zero vs

-- one vector more
pub subset_sum-push : (set : ℕ) (vs : List ℕ) (v : ℕ) → subset_sum set (vs ++ v ∷ []) ≡ bit_xor (subset_sum set vs) (bit_at set (length vs) * v)
subset_sum-push set [] v = xor_zero_r (set % 2 * v) ∙ ap (λ x. x * v) (sym (bit_at_lowest set))
subset_sum-push set (w ∷ vs) v =
    ap (bit_xor (set % 2 * w)) (subset_sum-push (set / 2) vs v)
    ∙ sym (xor_assoc (set % 2 * w) (subset_sum (set / 2) vs) (bit_at (set / 2) (length vs) * v))
    ∙ ap (λ x. bit_xor (subset_sum set (w ∷ vs)) (x * v)) (sym (bit_at-suc set (length vs)))

-- a set of the earlier vectors
pub subset_sum_earlier : (set : ℕ) (vs : List ℕ) (v : ℕ) → set < 2 ^ length vs → subset_sum set (vs ++ v ∷ []) ≡ subset_sum set vs
subset_sum_earlier set vs v h =
    subset_sum-push set vs v ∙ xor_comm (subset_sum set vs) _ ∙ xor_none _ v (subset_sum set vs) (bit_at_above set (length vs) (length vs) h (omega arith))

none_below : (vs : List ℕ) → subset_sum (2 ^ length vs) vs ≡ 0
none_below [] = refl
none_below (v ∷ vs) =
    let even : 2 ^ suc (length vs) % 2 ≡ 0 = omega (arith, pow-suc 2 (length vs)) in
    let half : 2 ^ suc (length vs) / 2 ≡ 2 ^ length vs = omega (arith, pow-suc 2 (length vs)) in
    xor_none _ v _ even ∙ ap (λ s. subset_sum s vs) half ∙ none_below vs

-- the newest vector alone
pub subset_sum_newest : (vs : List ℕ) (v : ℕ) → subset_sum (2 ^ length vs) (vs ++ v ∷ []) ≡ v
subset_sum_newest vs v =
    subset_sum-push (2 ^ length vs) vs v
    ∙ xor_comm (subset_sum (2 ^ length vs) vs) _
    ∙ xor_once _ v _ (bit_at-pow_same (length vs))
    ∙ ap (bit_xor v) (none_below vs)
    ∙ xor_zero_r v

pub spanned_zero : (vs : List ℕ) → IsSpanned vs 0
spanned_zero [] = refl
spanned_zero (v ∷ vs) = inl (spanned_zero vs)

-- the sum of a set is spanned
pub spanned-subset_sum : (set : ℕ) (vs : List ℕ) → IsSpanned vs (subset_sum set vs)
spanned-subset_sum set [] = refl
spanned-subset_sum set (v ∷ vs) =
    let rest : ℕ = subset_sum (set / 2) vs in
    let P : ℕ → Type 0 = IsSpanned vs in
    elim (cases_digit (set % 2) (mod_below set 2 (omega arith))) [
      | inl e ↦ inl (subst P (sym (xor_none _ v rest e)) (spanned-subset_sum (set / 2) vs))
      | inr e ↦ inr (subst P (sym (ap (bit_xor v) (xor_once _ v rest e) ∙ xor_twice v rest)) (spanned-subset_sum (set / 2) vs))
    ]

-- a span is closed under addition
pub spanned-xor : (vs : List ℕ) (a b : ℕ) → IsSpanned vs a → IsSpanned vs b → IsSpanned vs (bit_xor a b)
spanned-xor [] a b p q = ap (λ x. bit_xor x b) p ∙ q
spanned-xor (v ∷ vs) a b (inl p) (inl q) = inl (spanned-xor vs a b p q)
spanned-xor (v ∷ vs) a b (inl p) (inr q) =
    let P : ℕ → Type 0 = IsSpanned vs in
    inr (subst P (sym (xor_assoc a v b) ∙ ap (λ x. bit_xor x b) (xor_comm a v) ∙ xor_assoc v a b) (spanned-xor vs a (bit_xor v b) p q))
spanned-xor (v ∷ vs) a b (inr p) (inl q) =
    let P : ℕ → Type 0 = IsSpanned vs in
    inr (subst P (xor_assoc v a b) (spanned-xor vs (bit_xor v a) b p q))
spanned-xor (v ∷ vs) a b (inr p) (inr q) =
    let P : ℕ → Type 0 = IsSpanned vs in
    inl (subst P (xor_swap v a v b ∙ ap (λ x. bit_xor x (bit_xor a b)) (xor_self v)) (spanned-xor vs (bit_xor v a) (bit_xor v b) p q))

-- ---- one vector more

pub spanned_push_old : (vs : List ℕ) (v target : ℕ) → IsSpanned vs target → IsSpanned (vs ++ v ∷ []) target
spanned_push_old [] v target h = inl h
spanned_push_old (w ∷ vs) v target (inl h) = inl (spanned_push_old vs v target h)
spanned_push_old (w ∷ vs) v target (inr h) = inr (spanned_push_old vs v (bit_xor w target) h)

pub spanned_push_new : (vs : List ℕ) (v target : ℕ) → IsSpanned vs (bit_xor v target) → IsSpanned (vs ++ v ∷ []) target
spanned_push_new [] v target h = inr h
spanned_push_new (w ∷ vs) v target (inl h) = inl (spanned_push_new vs v target h)
spanned_push_new (w ∷ vs) v target (inr h) =
    let P : ℕ → Type 0 = IsSpanned vs in
    let turned : bit_xor w (bit_xor v target) ≡ bit_xor v (bit_xor w target) =
    sym (xor_assoc w v target) ∙ ap (λ x. bit_xor x target) (xor_comm w v) ∙ xor_assoc v w target in
    inr (spanned_push_new vs v (bit_xor w target) (subst P turned h))

-- the sum of a vector alone
pub subset_sum_single : (p : ℕ) (vs : List ℕ) → subset_sum (2 ^ p) vs ≡ get_or vs p 0
subset_sum_single p [] = refl
subset_sum_single zero (v ∷ vs) = xor_once 1 v (subset_sum 0 vs) refl ∙ ap (bit_xor v) (subset_sum-zero vs) ∙ xor_zero_r v
subset_sum_single (suc p) (v ∷ vs) =
    let even : 2 ^ suc p % 2 ≡ 0 = omega (arith, pow-suc 2 p) in
    let half : 2 ^ suc p / 2 ≡ 2 ^ p = omega (arith, pow-suc 2 p) in
    xor_none _ v _ even ∙ ap (λ s. subset_sum s vs) half ∙ subset_sum_single p vs
