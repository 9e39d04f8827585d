-- What is left of a vector when the rows clear it, as a linear function.
use Rattle.std.proofs.Common.{◌≡◌, ◌≢◌, ℕ, zero, suc, ◌+◌, ◌*◌, ◌^◌, ◌<◌, ◌≤◌, List, [], ◌∷◌, get_or, set, bit_xor, sym, ◌∙◌, ap, subst, refl, inl, inr, arith}
use Rattle.std.specs.Int.{bit_at}
use Rattle.std.specs.Int.Bits.{xor_self}
use Rattle.std.proofs.lemmas.Nat.Bits.{bit_at-lt, bit_at-zero, bit_at_above}
use Rattle.std.proofs.lemmas.Bool.{cases_lt, cases_eq, cases_order}
use Rattle.std.proofs.lemmas.List.{get_or-set_other}
use Rattle.std.proofs.Math.Pow.{pow_mono}
use Rattle.std.proofs.lemmas.Nat.{mul-le}
use Rattle.gf2_solve.specs.Span.{IsSpanned}
use Rattle.gf2_solve.specs.Echelon.{residue, IsEchelon}
use Rattle.gf2_solve.proofs.XorLemmas.{xor_swap, xor_none, xor_once, bit_at-xor, bit_at-xor-mul, top_is_set}

below_suc : (p v : ℕ) → v < 2 ^ (p + 1) → v < 2 ^ suc p
below_suc p v h = let e : p + 1 ≡ suc p = omega arith in subst (λ k. v < 2 ^ k) e h

-- a row that is zero adds nothing
xor_no_row : (x row v : ℕ) → row ≡ 0 → bit_xor (x * row) v ≡ v
xor_no_row x row v e = let none : x * row ≡ 0 = ap (λ r. x * r) e ∙ omega arith in ap (λ y. bit_xor y v) none

-- clearing is linear, whatever the rows
pub residue-xor : (rows : List ℕ) (n a b : ℕ) → residue rows n (bit_xor a b) ≡ bit_xor (residue rows n a) (residue rows n b)
unfolding residue
residue-xor rows zero a b = refl
residue-xor rows (suc n) a b =
    let row : ℕ = get_or rows n 0 in
    ap (residue rows n) (ap (λ x. bit_xor x (bit_xor a b)) (bit_at-xor-mul a b n row) ∙ xor_swap (bit_at a n * row) (bit_at b n * row) a b)
    ∙ residue-xor rows n (bit_xor (bit_at a n * row) a) (bit_xor (bit_at b n * row) b)

pub residue-zero : (rows : List ℕ) (n : ℕ) → residue rows n 0 ≡ 0
unfolding residue
residue-zero rows zero = refl
residue-zero rows (suc n) = ap (residue rows n) (xor_none _ (get_or rows n 0) 0 (bit_at-zero n)) ∙ residue-zero rows n

-- the bits above a vector play no part
pub residue_low : (rows : List ℕ) (n m v : ℕ) → v < 2 ^ m → m ≤ n → residue rows n v ≡ residue rows m v
unfolding residue
residue_low rows zero m v h i = let same : 0 ≡ m = omega arith in ap (λ k. residue rows k v) same
residue_low rows (suc n) m v h i =
    elim (cases_lt n m) [
      | inl j ↦ let same : suc n ≡ m = omega arith in ap (λ k. residue rows k v) same
      | inr j ↦ ap (residue rows n) (xor_none _ (get_or rows n 0) v (bit_at_above v m n h j)) ∙ residue_low rows n m v h j
    ]

-- a row clears itself
pub residue_row : (rows : List ℕ) → IsEchelon rows → (n p : ℕ) → p < n → residue rows n (get_or rows p 0) ≡ 0
unfolding residue
residue_row rows e n p h =
    let row : ℕ = get_or rows p 0 in
    elim (cases_lt 0 row) [
      | inl j ↦
          residue_low rows n (suc p) row (below_suc p row (e.within p)) (omega arith)
          ∙ ap (residue rows p) (xor_once _ row row (top_is_set p row (e.leads p j) (e.within p)) ∙ xor_self row)
          ∙ residue-zero rows p
      | inr j ↦ let none : row ≡ 0 = omega arith in ap (residue rows n) none ∙ residue-zero rows n
    ]

-- the rows below a place leave its bit alone
pub residue_keeps : (rows : List ℕ) → IsEchelon rows → (n p v : ℕ) → n ≤ p → bit_at (residue rows n v) p ≡ bit_at v p
unfolding residue
residue_keeps rows e zero p v h = refl
residue_keeps rows e (suc n) p v h =
    let row : ℕ = get_or rows n 0 in
    let above : n + 1 ≤ p = omega arith in
    let small : bit_at v n * row < 2 ^ p = omega (arith, mul-le (bit_at v n) row 1 row (omega (arith, bit_at-lt v n)) (omega arith), e.within n, pow_mono above) in
    residue_keeps rows e n p (bit_xor (bit_at v n * row) v) (omega arith)
    ∙ bit_at-xor (bit_at v n * row) v p
    ∙ ap (λ x. bit_xor x (bit_at v p)) (bit_at_above (bit_at v n * row) p p small (omega arith))

-- a vector whose highest bit has no row is not cleared
pub residue_stuck : (rows : List ℕ) → IsEchelon rows → (n p v : ℕ) → p < n → 2 ^ p ≤ v → v < 2 ^ (p + 1) → get_or rows p 0 ≡ 0 → residue rows n v ≢ 0
unfolding residue
residue_stuck rows e n p v h i j k r =
    let low : residue rows n v ≡ residue rows (suc p) v = residue_low rows n (suc p) v (below_suc p v j) (omega arith) in
    let stays : bit_xor (bit_at v p * get_or rows p 0) v ≡ v = xor_no_row (bit_at v p) _ v k in
    let bit : bit_at (residue rows n v) p ≡ bit_at v p = ap (λ x. bit_at x p) (low ∙ ap (residue rows p) stays) ∙ residue_keeps rows e p p v (omega arith) in
    let one : bit_at v p ≡ 1 = top_is_set p v i j in
    let none : bit_at (residue rows n v) p ≡ 0 = ap (λ x. bit_at x p) r ∙ bit_at-zero p in
    cc

-- a number has one highest bit
pub same_top : (p q v : ℕ) → 2 ^ p ≤ v → v < 2 ^ (p + 1) → 2 ^ q ≤ v → v < 2 ^ (q + 1) → p ≡ q
same_top p q v h i j k =
    elim (cases_order p q) [
      | inl e ↦ e
      | inr (inl l) ↦ let m : p + 1 ≤ q = omega arith in absurd (omega (arith, pow_mono m))
      | inr (inr l) ↦ let m : q + 1 ≤ p = omega arith in absurd (omega (arith, pow_mono m))
    ]

-- what is spanned by cleared vectors is cleared
pub residue-spanned : (rows : List ℕ) (n : ℕ) (vs : List ℕ) → ((i : ℕ) → residue rows n (get_or vs i 0) ≡ 0) → (t : ℕ) → IsSpanned vs t → residue rows n t ≡ 0
residue-spanned rows n [] c t h = ap (residue rows n) h ∙ residue-zero rows n
residue-spanned rows n (v ∷ vs) c t (inl h) = residue-spanned rows n vs (λ i. c (suc i)) t h
residue-spanned rows n (v ∷ vs) c t (inr h) =
    ap (λ x. bit_xor x (residue rows n t)) (sym (c 0))
    ∙ sym (residue-xor rows n v t)
    ∙ residue-spanned rows n vs (λ i. c (suc i)) (bit_xor v t) h

-- rows that agree below n clear alike
pub residue_same : (rows rows' : List ℕ) (n v : ℕ) → ((q : ℕ) → q < n → get_or rows q 0 ≡ get_or rows' q 0) → residue rows n v ≡ residue rows' n v
unfolding residue
residue_same rows rows' zero v h = refl
residue_same rows rows' (suc n) v h =
    ap (λ r. residue rows n (bit_xor (bit_at v n * r) v)) (h n (omega arith))
    ∙ residue_same rows rows' n _ (λ q i. h q (omega arith))

-- a new row keeps cleared what was cleared
pub residue_set : (rows : List ℕ) → IsEchelon rows → (p row : ℕ) → get_or rows p 0 ≡ 0 → (n v : ℕ) → residue rows n v ≡ 0 → residue (set rows p row) n v ≡ 0
unfolding residue
residue_set rows e p row k zero v h = h
residue_set rows e p row k (suc n) v h =
    elim (cases_eq n p) [
      | inl same ↦
          let here : get_or rows n 0 ≡ 0 = ap (λ q. get_or rows q 0) same ∙ k in
          let left : residue rows n v ≡ 0 = sym (ap (residue rows n) (xor_no_row (bit_at v n) _ v here)) ∙ h in
          let none : bit_at v n ≡ 0 = sym (residue_keeps rows e n n v (omega arith)) ∙ ap (λ x. bit_at x n) left ∙ bit_at-zero n in
          ap (residue (set rows p row) n) (xor_none _ (get_or (set rows p row) n 0) v none)
          ∙ sym (residue_same rows (set rows p row) n v (λ q i. sym (get_or-set_other rows p q row 0 (omega arith))))
          ∙ left
      | inr other ↦
          ap (λ r. residue (set rows p row) n (bit_xor (bit_at v n * r) v)) (get_or-set_other rows p n row 0 other)
          ∙ residue_set rows e p row k n _ h
    ]
