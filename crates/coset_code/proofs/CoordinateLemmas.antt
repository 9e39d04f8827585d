-- Coordinates taken one column after the other.
use Rattle.std.proofs.Common.{◌≡◌, ℕ, zero, suc, ◌+◌, ◌^◌, ◌<◌, false, List, [], length, get_or, set, bit_or, nat_eq, sym, ◌∙◌, ap, subst, refl, inl, inr, arith}
use Rattle.std.specs.Int.{bit_at}
use Rattle.std.proofs.lemmas.Nat.{pow_pos}
use Rattle.std.proofs.lemmas.Nat.Bits.{bit_at_or, bit_at-pow_same}
use Rattle.std.proofs.lemmas.Bool.{cases_lt}
use Rattle.std.proofs.lemmas.List.{get_or-set_same, get_or-set_other, get_or_past}
use Rattle.gf2_solve.specs.Family.{Family}
use Rattle.gf2_solve.specs.Span.{subset_sum, IsSpanned}
use Rattle.gf2_solve.proofs.SpanLemmas.{subset_sum-zero}
use Rattle.coset_code.specs.Solution.{HasOffered}
use Rattle.coset_code.specs.Coordinates.{HasCoordinates}
use Rattle.coset_code.proofs.ChangeOfBasis.{free_sum_single}

-- every column is spanned once all were offered
pub column_spanned : (columns : List ℕ) (full : Family) → HasOffered columns [] (length columns) full → (cell : ℕ) → cell < length columns → IsSpanned full.columns (get_or columns cell 0)
column_spanned columns full o cell h = o.spans (get_or columns cell 0) (free_sum_single columns [] cell (length columns) h refl)

-- the coordinates of the columns below n
pub record HasCoordinatesBelow (columns coords vectors : List ℕ) (n : ℕ) : Type 0 where
  pub sums : (k : ℕ) → k < n → subset_sum (get_or coords k 0) vectors ≡ get_or columns k 0
  pub within : (k : ℕ) → k < n → get_or coords k 0 < 2 ^ length vectors

pub coordinates_more : (columns coords vectors : List ℕ) (n x : ℕ) → HasCoordinatesBelow columns coords vectors n → n < length coords → subset_sum x vectors ≡ get_or columns n 0
    → x < 2 ^ length vectors →
    HasCoordinatesBelow columns (set coords n x) vectors (n + 1)
coordinates_more columns coords vectors n x c h e l = record {
  sums = λ k i. elim (cases_lt k n) [
    | inl j ↦ ap (λ y. subset_sum y vectors) (get_or-set_other coords n k x 0 (λ same. omega arith)) ∙ c.sums k j
    | inr j ↦
        let same : k ≡ n = omega arith in
        subst (λ m. subset_sum (get_or (set coords n x) m 0) vectors ≡ get_or columns m 0) (sym same) (ap (λ y. subset_sum y vectors) (get_or-set_same coords n x 0 h) ∙ e)
  ];
  within = λ k i. elim (cases_lt k n) [
    | inl j ↦ omega (arith, get_or-set_other coords n k x 0 (λ same. omega arith), c.within k j)
    | inr j ↦
        let same : k ≡ n = omega arith in
        subst (λ m. get_or (set coords n x) m 0 < 2 ^ length vectors) (sym same) (omega (arith, get_or-set_same coords n x 0 h))
  ];
}

pub has_coordinates : (columns coords : List ℕ) (full : Family) → HasOffered columns [] (length columns) full → length coords ≡ length columns
    → HasCoordinatesBelow columns coords full.columns (length columns) → HasCoordinates columns coords full
has_coordinates columns coords full o len c = record {
  offered = o;
  coords_len = len;
  sums = λ k. elim (cases_lt k (length columns)) [
    | inl h ↦ c.sums k h
    | inr h ↦ ap (λ y. subset_sum y full.columns) (get_or_past coords k 0 (omega arith)) ∙ subset_sum-zero full.columns ∙ sym (get_or_past columns k 0 h)
  ];
  within = λ k. elim (cases_lt k (length columns)) [
    | inl h ↦ c.within k h
    | inr h ↦ omega (arith, get_or_past coords k 0 (omega arith), pow_pos (length full.columns))
  ];
}

-- ---- the places of charged cells

uncharged : (b : ℕ) → b < 2 → nat_eq b 1 ≡ false → b ≡ 0
uncharged zero h e = refl
uncharged (suc zero) h e = cc
uncharged (suc (suc b)) h e = absurd (omega arith)

pub places_charged : (bit : ℕ → ℕ) (places place unit : ℕ) → ((p : ℕ) → p < place → bit_at places p ≡ 0 → bit p ≡ 0) → unit ≡ 2 ^ place →
    (p : ℕ) → p < place + 1 → bit_at (bit_or places unit) p ≡ 0 → bit p ≡ 0
places_charged bit places place unit h u p l e =
    elim (cases_lt p place) [
      | inl i ↦ h p i (omega (arith, bit_at_or places unit p))
      | inr i ↦
          let same : p ≡ place = omega arith in
          let one : bit_at unit p ≡ 1 = ap (bit_at unit) same ∙ ap (λ x. bit_at x place) u ∙ bit_at-pow_same place in
          absurd (omega (arith, bit_at_or places unit p))
    ]

pub places_free : (bit : ℕ → ℕ) (places place : ℕ) → ((p : ℕ) → p < place → bit_at places p ≡ 0 → bit p ≡ 0) → bit place < 2 → nat_eq (bit place) 1 ≡ false →
    (p : ℕ) → p < place + 1 → bit_at places p ≡ 0 → bit p ≡ 0
places_free bit places place h two f p l e =
    elim (cases_lt p place) [
      | inl i ↦ h p i e
      | inr i ↦ let same : p ≡ place = omega arith in ap bit same ∙ uncharged (bit place) two f
    ]

-- the same coordinates, as they are read
pub read : {columns coords coords' : List ℕ} {full : Family} → HasCoordinates columns coords full → coords' ≡ coords → HasCoordinates columns coords' full
read {columns} {coords} {coords'} {full} s e = subst (λ cs. HasCoordinates columns cs full) (sym e) s
