-- Columns and their coordinates in the greedy basis of all columns: the same free sums, also under a mask.
use Rattle.std.proofs.Common.{◌≡◌, ℕ, zero, suc, ◌+◌, ◌^◌, ◌<◌, ◌≤◌, ◌⊎◌, Bool, true, false, cond, List, [], length, get_or, bit_xor, bit_and, min, sym, ◌∙◌, ap, subst, refl, inl, inr, arith}
use Rattle.std.specs.Int.{bit_at}
use Rattle.std.specs.Int.Bits.{xor_comm, xor_self, xor_zero_r, xor_lt}
use Rattle.std.proofs.lemmas.Grind.{pow_more}
use Rattle.std.proofs.lemmas.Nat.{pow_pos, pow_below}
use Rattle.std.proofs.lemmas.Nat.Bits.{bit_at_and, bit_at-lt, bit_at-zero, same_from_bits, bit_at-pow_other}
use Rattle.std.proofs.lemmas.Bool.{cases_lt, cases_eq}
use Rattle.gf2_solve.specs.Family.{Family}
use Rattle.gf2_solve.specs.Span.{subset_sum}
use Rattle.gf2_solve.proofs.XorLemmas.{xor_twice, xor_cancels, bit_at-xor}
use Rattle.gf2_solve.proofs.SpanLemmas.{subset_sum-xor, subset_sum-zero, subset_sum_single}
use Rattle.wom_code.specs.Cells.{cell_at}
use Rattle.coset_code.specs.Sums.{sum_below, syndrome, IsFreeSum}
use Rattle.coset_code.specs.Solution.{IsFreeBasis}
use Rattle.coset_code.specs.Coordinates.{HasCoordinates, IsMasked}
use Rattle.coset_code.proofs.SumLemmas.{free_sum-xor, sum_below_lt}

-- ---- a mask is linear

digits : (x y z : ℕ) → x < 2 → y < 2 → z < 2 → min (bit_xor x y) z ≡ bit_xor (min x z) (min y z)
digits zero zero zero p q r = refl
digits zero zero (suc zero) p q r = refl
digits zero (suc zero) zero p q r = refl
digits zero (suc zero) (suc zero) p q r = refl
digits (suc zero) zero zero p q r = refl
digits (suc zero) zero (suc zero) p q r = refl
digits (suc zero) (suc zero) zero p q r = refl
digits (suc zero) (suc zero) (suc zero) p q r = refl
digits (suc (suc x)) y z p q r = absurd (omega arith)
digits x (suc (suc y)) z p q r = absurd (omega arith)
digits x y (suc (suc z)) p q r = absurd (omega arith)

pub and_xor : (a b m : ℕ) → bit_and (bit_xor a b) m ≡ bit_xor (bit_and a m) (bit_and b m)
and_xor a b m = same_from_bits _ _ (λ i.
    bit_at_and (bit_xor a b) m i
    ∙ ap (λ x. min x (bit_at m i)) (bit_at-xor a b i)
    ∙ digits (bit_at a i) (bit_at b i) (bit_at m i) (bit_at-lt a i) (bit_at-lt b i) (bit_at-lt m i)
    ∙ ap (λ x. bit_xor x (min (bit_at b i) (bit_at m i))) (sym (bit_at_and a m i))
    ∙ ap (bit_xor (bit_at (bit_and a m) i)) (sym (bit_at_and b m i))
    ∙ sym (bit_at-xor (bit_and a m) (bit_and b m) i))

pub and_zero : (m : ℕ) → bit_and 0 m ≡ 0
and_zero m = same_from_bits (bit_and 0 m) 0 (λ i. omega (arith, bit_at_and 0 m i, bit_at-zero i))

-- a bit that is not in the mask
pub and_unit : (p m : ℕ) → bit_at m p ≡ 0 → bit_and (2 ^ p) m ≡ 0
and_unit p m e = same_from_bits (bit_and (2 ^ p) m) 0 (λ i. elim (cases_eq i p) [
  | inl same ↦ let z : bit_at m i ≡ 0 = ap (bit_at m) same ∙ e in omega (arith, bit_at_and (2 ^ p) m i, bit_at-zero i)
  | inr other ↦ omega (arith, bit_at_and (2 ^ p) m i, bit_at-zero i, bit_at-pow_other p i other)
])

pub sum_below_linear : (f : ℕ → ℕ) → f 0 ≡ 0 → ((a b : ℕ) → f (bit_xor a b) ≡ bit_xor (f a) (f b)) → (a b : List ℕ) → ((i : ℕ) → get_or b i 0 ≡ f (get_or a i 0)) →
    (cells : List Bool) (n : ℕ) → sum_below b cells n ≡ f (sum_below a cells n)
unfolding sum_below
sum_below_linear f z h a b e cells zero = sym z
sum_below_linear f z h a b e cells (suc n) =
    ap (bit_xor (cond (cell_at cells n) (get_or b n 0) 0)) (sum_below_linear f z h a b e cells n)
    ∙ ap (λ x. bit_xor x (f (sum_below a cells n))) (one (cell_at cells n))
    ∙ sym (h (cond (cell_at cells n) (get_or a n 0) 0) (sum_below a cells n))
  where
    one : (c : Bool) → cond c (get_or b n 0) 0 ≡ f (cond c (get_or a n 0) 0)
    one true = e n
    one false = sym z

-- ---- free sums

pub free_sum-zero : (columns : List ℕ) (old : List Bool) (n : ℕ) → IsFreeSum columns old n 0
unfolding IsFreeSum
free_sum-zero columns old zero = refl
free_sum-zero columns old (suc n) = inl (free_sum-zero columns old n)

-- over blank cells there are the most
pub free_sum_blank : (columns : List ℕ) (old : List Bool) (n v : ℕ) → IsFreeSum columns old n v → IsFreeSum columns [] n v
unfolding IsFreeSum
free_sum_blank columns old zero v h = h
free_sum_blank columns old (suc n) v (inl h) = inl (free_sum_blank columns old n v h)
free_sum_blank columns old (suc n) v (inr h) = inr (refl, free_sum_blank columns old n (bit_xor (get_or columns n 0) v) h.1)

pub free_sum_later : (columns : List ℕ) (old : List Bool) (n m v : ℕ) → n ≤ m → IsFreeSum columns old n v → IsFreeSum columns old m v
unfolding IsFreeSum
free_sum_later columns old n zero v le h = let same : n ≡ zero = omega arith in subst (λ k. IsFreeSum columns old k v) same h
free_sum_later columns old n (suc m) v le h =
    elim (cases_lt n (suc m)) [
      | inl l ↦ inl (free_sum_later columns old n m v (omega arith) h)
      | inr e ↦ let same : n ≡ suc m = omega arith in subst (λ k. IsFreeSum columns old k v) same h
    ]

newest : (columns : List ℕ) (old : List Bool) (cell : ℕ) → cell_at old cell ≡ false → IsFreeSum columns old (suc cell) (get_or columns cell 0)
unfolding IsFreeSum
newest columns old cell free =
    let P : ℕ → Type 0 = IsFreeSum columns old cell in
    inr (free, subst P (sym (xor_self (get_or columns cell 0))) (free_sum-zero columns old cell))

pub free_sum_single : (columns : List ℕ) (old : List Bool) (cell n : ℕ) → cell < n → cell_at old cell ≡ false → IsFreeSum columns old n (get_or columns cell 0)
free_sum_single columns old cell n l free = free_sum_later columns old (suc cell) n (get_or columns cell 0) (omega arith) (newest columns old cell free)

-- ---- the basis of all columns is independent

below_suc : (p v : ℕ) → v < 2 ^ suc p → v < 2 ^ (p + 1)
below_suc p v h = let e : suc p ≡ p + 1 = omega arith in subst (λ k. v < 2 ^ k) e h

split_top : (p s : ℕ) → s < 2 ^ suc p → (s < 2 ^ p) ⊎ (bit_xor s (2 ^ p) < 2 ^ p)
split_top p s h =
    elim (cases_lt s (2 ^ p)) [
      | inl l ↦ inl l
      | inr m ↦ inr (xor_cancels p s (2 ^ p) m (below_suc p s h) (omega arith) (omega (arith, pow_more 2 p, pow_pos p)))
    ]

-- a sum with one vector added
pub sum_without : (s p : ℕ) (vs : List ℕ) → subset_sum (bit_xor s (2 ^ p)) vs ≡ bit_xor (get_or vs p 0) (subset_sum s vs)
sum_without s p vs =
    subset_sum-xor s (2 ^ p) vs ∙ xor_comm (subset_sum s vs) (subset_sum (2 ^ p) vs) ∙ ap (λ x. bit_xor x (subset_sum s vs)) (subset_sum_single p vs)

none_small : (s : ℕ) → s < 2 ^ 0 → s ≡ 0
none_small s h = let one : 2 ^ 0 ≡ 1 = refl in omega arith

-- the sum of earlier vectors is a sum of the columns of earlier cells
set_free : (columns : List ℕ) (full : Family) → IsFreeBasis columns [] full → (p : ℕ) → p ≤ length full.columns → (s n : ℕ) → s < 2 ^ p → ((q : ℕ) → q < p → get_or full.tags q 0 < n) →
    IsFreeSum columns [] n (subset_sum s full.columns)
set_free columns full f zero le s n h t =
    let P : ℕ → Type 0 = IsFreeSum columns [] n in
    subst P (sym (ap (λ x. subset_sum x full.columns) (none_small s h) ∙ subset_sum-zero full.columns)) (free_sum-zero columns [] n)
set_free columns full f (suc p) le s n h t =
    elim (split_top p s h) [
      | inl l ↦ set_free columns full f p (omega arith) s n l (λ q i. t q (omega arith))
      | inr l ↦
          let P : ℕ → Type 0 = IsFreeSum columns [] n in
          let b : ℕ = get_or full.columns p 0 in
          let k = f.chosen p (omega arith) in
          let rest = set_free columns full f p (omega arith) (bit_xor s (2 ^ p)) n l (λ q i. t q (omega arith)) in
          let one = subst P k.column_is (free_sum_single columns [] (get_or full.tags p 0) n (t p (omega arith)) refl) in
          let split : bit_xor b (subset_sum (bit_xor s (2 ^ p)) full.columns) ≡ subset_sum s full.columns =
          ap (bit_xor b) (sum_without s p full.columns) ∙ xor_twice b (subset_sum s full.columns) in
          subst P split (free_sum-xor columns [] n b (subset_sum (bit_xor s (2 ^ p)) full.columns) one rest)
    ]

kernel_below : (columns : List ℕ) (full : Family) → IsFreeBasis columns [] full → (p : ℕ) → p ≤ length full.columns → (x : ℕ) → x < 2 ^ p → subset_sum x full.columns ≡ 0 → x ≡ 0
kernel_below columns full f zero le x h e = none_small x h
kernel_below columns full f (suc p) le x h e =
    elim (split_top p x h) [
      | inl l ↦ kernel_below columns full f p (omega arith) x l e
      | inr l ↦
          let b : ℕ = get_or full.columns p 0 in
          let t : ℕ = get_or full.tags p 0 in
          let P : ℕ → Type 0 = IsFreeSum columns [] t in
          let k = f.chosen p (omega arith) in
          let sum = set_free columns full f p (omega arith) (bit_xor x (2 ^ p)) t l (λ q i. f.ascending q p i (omega arith)) in
          let same : subset_sum (bit_xor x (2 ^ p)) full.columns ≡ b = sum_without x p full.columns ∙ ap (bit_xor b) e ∙ xor_zero_r b in
          absurd (k.unspanned (subst P same sum))
    ]

-- zero is the sum of none of them alone
pub kernel : (columns : List ℕ) (full : Family) → IsFreeBasis columns [] full → (x : ℕ) → x < 2 ^ length full.columns → subset_sum x full.columns ≡ 0 → x ≡ 0
kernel columns full f x h e = kernel_below columns full f (length full.columns) (omega arith) x h e

-- the coordinates of a vector of the basis
pub unit_at : (columns coords : List ℕ) (full : Family) → HasCoordinates columns coords full → (p : ℕ) → p < length full.columns → get_or coords (get_or full.tags p 0) 0 ≡ 2 ^ p
unit_at columns coords full s p h =
    let b : ℕ = get_or full.columns p 0 in
    let cell : ℕ = get_or full.tags p 0 in
    let x : ℕ = get_or coords cell 0 in
    let k = s.offered.kept.chosen p h in
    let none : subset_sum (bit_xor x (2 ^ p)) full.columns ≡ 0 = sum_without x p full.columns ∙ ap (bit_xor b) (s.sums cell ∙ k.column_is) ∙ xor_self b in
    let zeros : bit_xor x (2 ^ p) ≡ 0 = kernel columns full s.offered.kept (bit_xor x (2 ^ p)) (xor_lt (length full.columns) x (2 ^ p) (s.within cell) (pow_below p (length full.columns) h)) none in
    sym (ap (bit_xor x) zeros ∙ xor_zero_r x) ∙ xor_twice x (2 ^ p)

-- ---- from columns to masked coordinates

-- a free sum of columns is one of the masked coordinates
pub masked_sum : (columns coords masked : List ℕ) (mask : ℕ) (full : Family) → HasCoordinates columns coords full → IsMasked coords mask masked → (old : List Bool) (n x : ℕ) →
    x < 2 ^ length full.columns → IsFreeSum columns old n (subset_sum x full.columns) → IsFreeSum masked old n (bit_and x mask)
unfolding IsFreeSum
masked_sum columns coords masked mask full s m old zero x h f = ap (λ y. bit_and y mask) (kernel columns full s.offered.kept x h f) ∙ and_zero mask
masked_sum columns coords masked mask full s m old (suc n) x h (inl f) = inl (masked_sum columns coords masked mask full s m old n x h f)
masked_sum columns coords masked mask full s m old (suc n) x h (inr f) =
    let c : ℕ = get_or coords n 0 in
    let P : ℕ → Type 0 = IsFreeSum columns old n in
    let Q : ℕ → Type 0 = IsFreeSum masked old n in
    let sum : bit_xor (get_or columns n 0) (subset_sum x full.columns) ≡ subset_sum (bit_xor c x) full.columns =
    sym (subset_sum-xor c x full.columns ∙ ap (λ y. bit_xor y (subset_sum x full.columns)) (s.sums n)) in
    let turn : bit_and (bit_xor c x) mask ≡ bit_xor (get_or masked n 0) (bit_and x mask) = and_xor c x mask ∙ ap (λ y. bit_xor y (bit_and x mask)) (sym (m.masks n)) in
    inr (f.0, subst Q turn (masked_sum columns coords masked mask full s m old n (bit_xor c x) (xor_lt (length full.columns) c x (s.within n) h) (subst P sum f.1)))

-- the sum of columns, from that of coordinates
pub syndrome_columns : (columns coords : List ℕ) (full : Family) → HasCoordinates columns coords full → (cells : List Bool) → subset_sum (syndrome coords cells) full.columns ≡ syndrome columns cells
syndrome_columns columns coords full s cells =
    ap (λ k. subset_sum (sum_below coords cells k) full.columns) s.coords_len
    ∙ sym (sum_below_linear (λ x. subset_sum x full.columns) (subset_sum-zero full.columns) (λ a b. subset_sum-xor a b full.columns) coords columns (λ i. sym (s.sums i)) cells (length columns))

pub syndrome_masked : (coords masked : List ℕ) (mask : ℕ) → IsMasked coords mask masked → (cells : List Bool) → syndrome masked cells ≡ bit_and (syndrome coords cells) mask
syndrome_masked coords masked mask m cells =
    ap (sum_below masked cells) m.masked_len ∙ sum_below_linear (λ x. bit_and x mask) (and_zero mask) (λ a b. and_xor a b mask) coords masked m.masks cells (length coords)

pub syndrome_within : (columns coords : List ℕ) (full : Family) → HasCoordinates columns coords full → (cells : List Bool) → syndrome coords cells < 2 ^ length full.columns
syndrome_within columns coords full s cells = sum_below_lt coords (length full.columns) s.within cells (length coords)
