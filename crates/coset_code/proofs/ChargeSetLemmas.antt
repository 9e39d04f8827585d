-- A set's cells charged one by one.
use Rattle.std.proofs.Common.{◌≡◌, ◌≢◌, ℕ, ◌^◌, ◌<◌, Bool, false, List, length, get_or, bit_xor, sym, ◌∙◌, ap, subst, refl, inl, inr, arith}
use Rattle.std.specs.Int.{bit_at}
use Rattle.std.specs.Int.Bits.{xor_comm, xor_self, xor_zero_r}
use Rattle.std.proofs.lemmas.Bool.{cases_eq, cases_order, true≢false}
use Rattle.std.proofs.lemmas.Nat.Bits.{bit_at-pow_same, bit_at-pow_other}
use Rattle.gf2_solve.specs.Family.{Family}
use Rattle.gf2_solve.specs.Span.{subset_sum}
use Rattle.gf2_solve.proofs.XorLemmas.{xor_swap, bit_at-xor}
use Rattle.gf2_solve.proofs.SpanLemmas.{subset_sum-xor, subset_sum_single}
use Rattle.wom_code.specs.Cells.{cell_at}
use Rattle.coset_code.specs.Sums.{syndrome}
use Rattle.coset_code.specs.Coordinates.{IsFreeSet, IsChargedSet}
use Rattle.coset_code.proofs.SumLemmas.{sum_below_charged}
use Rattle.coset_code.proofs.ChargeLemmas.{IsLowest, IsChargedAt, bit_within}

pub set_none : (columns : List ℕ) (old : List Bool) (basis : Family) (set : ℕ) → IsFreeSet columns old basis set → IsChargedSet columns old old basis set set
set_none columns old basis set f = record {
  sum = refl;
  above = λ i h. h;
  fresh = λ i free charged. absurd (true≢false (sym charged ∙ free));
  part = λ p e. e;
  left = λ p e. (f.cells p e).free;
}

-- the cell of one vector of the rest is charged
pub set_more : (columns : List ℕ) (old now new : List Bool) (basis : Family) (set rest p less : ℕ) →
    IsFreeSet columns old basis set → IsChargedSet columns old now basis set rest → rest < 2 ^ length basis.columns → IsLowest rest (length basis.columns) p less →
    (tag : ℕ) → tag ≡ get_or basis.tags p 0 → IsChargedAt now new tag → IsChargedSet columns old new basis set less
set_more columns old now new basis set rest p less f c within l tag tag_is at =
    let cell : ℕ = get_or basis.tags p 0 in
    let a = subst (IsChargedAt now new) tag_is at in
    let v : ℕ = get_or basis.columns p 0 in
    let k = f.cells p (c.part p l.in_set) in
    let was : cell_at now cell ≡ false = c.left p l.in_set in
    let sum : syndrome columns new ≡ bit_xor v (syndrome columns now) =
    sum_below_charged columns now new cell was a.now a.beside (length columns) k.in_range ∙ ap (λ x. bit_xor x (syndrome columns now)) k.column_is in
    let part : subset_sum less basis.columns ≡ bit_xor v (subset_sum rest basis.columns) =
    ap (λ s. subset_sum s basis.columns) l.less_is
    ∙ subset_sum-xor rest (2 ^ p) basis.columns
    ∙ xor_comm (subset_sum rest basis.columns) _
    ∙ ap (λ x. bit_xor x (subset_sum rest basis.columns)) (subset_sum_single p basis.columns) in
    let bit : (q : ℕ) → bit_at less q ≡ bit_xor (bit_at rest q) (bit_at (2 ^ p) q) = λ q. ap (λ x. bit_at x q) l.less_is ∙ bit_at-xor rest (2 ^ p) q in
    let apart : (q : ℕ) → bit_at less q ≡ 1 → q ≢ p = λ q e same.
    let gone : bit_at less q ≡ 0 = bit q ∙ ap (λ j. bit_xor (bit_at rest j) (bit_at (2 ^ p) j)) same ∙ ap (λ x. bit_xor x (bit_at (2 ^ p) p)) l.in_set ∙ ap (bit_xor 1) (bit_at-pow_same p) in
    absurd (cc) in
    let kept : (q : ℕ) → bit_at less q ≡ 1 → bit_at rest q ≡ 1 = λ q e.
    sym (bit q ∙ ap (bit_xor (bit_at rest q)) (bit_at-pow_other p q (apart q e)) ∙ xor_zero_r (bit_at rest q)) ∙ e in
    record {
      sum =
          ap (λ x. bit_xor x (subset_sum less basis.columns)) sum
          ∙ ap (bit_xor (bit_xor v (syndrome columns now))) part
          ∙ xor_swap v (syndrome columns now) v (subset_sum rest basis.columns)
          ∙ ap (λ x. bit_xor x (bit_xor (syndrome columns now) (subset_sum rest basis.columns))) (xor_self v)
          ∙ c.sum;
      above = λ i h. elim (cases_eq i cell) [
        | inl same ↦ ap (cell_at new) same ∙ a.now
        | inr other ↦ a.beside i other ∙ c.above i h
      ];
      fresh = λ i free charged. elim (cases_eq i cell) [
        | inl same ↦ (p, c.part p l.in_set, sym same)
        | inr other ↦ c.fresh i free (sym (a.beside i other) ∙ charged)
      ];
      part = λ q e. c.part q (kept q e);
      left = λ q e.
          let in_range : q < length basis.columns = bit_within rest (length basis.columns) q within (kept q e) in
          let other : get_or basis.tags q 0 ≢ cell = elim (cases_order p q) [
            | inl same ↦ absurd (apart q e (sym same))
            | inr (inl less_than) ↦ omega (arith, f.ascending p q less_than in_range)
            | inr (inr more_than) ↦ omega (arith, f.ascending q p more_than l.in_range)
          ] in
          a.beside (get_or basis.tags q 0) other ∙ c.left q (kept q e);
    }
