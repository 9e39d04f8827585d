-- What a basis spans once the cells below a number were offered.
use Rattle.std.proofs.Common.{◌≡◌, ℕ, suc, ◌+◌, ◌<◌, ◌⊎◌, Bool, true, false, List, [], ◌∷◌, ◌++◌, length, get_or, bit_xor, sym, ◌∙◌, ap, subst, refl, inl, inr, arith}
use Rattle.std.proofs.lemmas.Bool.{cases_lt, true≢false}
use Rattle.std.proofs.lemmas.List.{get_or_append_left, get_or_at, length_push}
use Rattle.gf2_solve.specs.Family.{Family, family}
use Rattle.gf2_solve.specs.Span.{IsSpanned}
use Rattle.gf2_solve.proofs.XorLemmas.{xor_twice}
use Rattle.gf2_solve.proofs.SpanLemmas.{spanned-xor, spanned_push_old, spanned_push_new}
use Rattle.wom_code.specs.Cells.{cell_at}
use Rattle.coset_code.specs.Sums.{IsFreeSum}
use Rattle.coset_code.specs.Solution.{IsChosen, HasOffered}

pub offered_none : (columns : List ℕ) (old : List Bool) → HasOffered columns old 0 (family [] [])
unfolding IsFreeSum
offered_none columns old = record {
  kept = record { same_len = refl; chosen = λ p h. absurd (omega arith); ascending = λ p q h i. absurd (omega arith) };
  before = λ p h. absurd (omega arith);
  spans = λ v h. h;
}

-- a free sum below n + 1, by its last cell
pub free_sum_more : (columns : List ℕ) (old : List Bool) (n v : ℕ) → IsFreeSum columns old (n + 1) v →
    IsFreeSum columns old n v ⊎ ((cell_at old n ≡ false) × IsFreeSum columns old n (bit_xor (get_or columns n 0) v))
unfolding IsFreeSum
free_sum_more columns old n v h = let next : n + 1 ≡ suc n = omega arith in subst (λ k. IsFreeSum columns old k v) next h

pub offered_charged : (columns : List ℕ) (old : List Bool) (n : ℕ) (basis : Family) → HasOffered columns old n basis → cell_at old n ≡ true → HasOffered columns old (n + 1) basis
offered_charged columns old n basis o e = record {
  kept = o.kept;
  before = λ p h. omega (arith, o.before p h);
  spans = λ v h. elim (free_sum_more columns old n v h) [ inl f ↦ o.spans v f | inr f ↦ absurd (true≢false (sym e ∙ f.0)) ];
}

pub offered_spanned : (columns : List ℕ) (old : List Bool) (n : ℕ) (basis : Family) → HasOffered columns old n basis → IsSpanned basis.columns (get_or columns n 0)
    → HasOffered columns old (n + 1) basis
offered_spanned columns old n basis o s = record {
  kept = o.kept;
  before = λ p h. omega (arith, o.before p h);
  spans = λ v h. elim (free_sum_more columns old n v h) [
    | inl f ↦ o.spans v f
    | inr f ↦ let P : ℕ → Type 0 = IsSpanned basis.columns in subst P (xor_twice (get_or columns n 0) v) (spanned-xor basis.columns _ _ s (o.spans _ f.1))
  ];
}

pub offered_taken : (columns : List ℕ) (old : List Bool) (n : ℕ) (basis : Family) → HasOffered columns old n basis → n < length columns → cell_at old n ≡ false →
    ¬ (IsSpanned basis.columns (get_or columns n 0)) → HasOffered columns old (n + 1) (family (basis.columns ++ get_or columns n 0 ∷ []) (basis.tags ++ n ∷ []))
offered_taken columns old n basis o within free unspanned =
    let c : ℕ = get_or columns n 0 in
    let len : length (basis.columns ++ c ∷ []) ≡ length basis.columns + 1 = length_push basis.columns c in
    let same : length basis.tags ≡ length basis.columns = o.kept.same_len in
    let new : IsChosen columns old n c = record { in_range = within; free = free; column_is = refl; unspanned = λ h. unspanned (o.spans c h) } in
    let old_tag : (p : ℕ) → p < length basis.columns → get_or (basis.tags ++ n ∷ []) p 0 ≡ get_or basis.tags p 0 = λ p h. get_or_append_left basis.tags (n ∷ []) 0 p (omega arith) in
    let old_column : (p : ℕ) → p < length basis.columns → get_or (basis.columns ++ c ∷ []) p 0 ≡ get_or basis.columns p 0 = λ p h. get_or_append_left basis.columns (c ∷ []) 0 p h in
    let new_tag : (p : ℕ) → p ≡ length basis.columns → get_or (basis.tags ++ n ∷ []) p 0 ≡ n = λ p e. get_or_at basis.tags n [] 0 p (omega arith) in
    let new_column : (p : ℕ) → p ≡ length basis.columns → get_or (basis.columns ++ c ∷ []) p 0 ≡ c = λ p e. get_or_at basis.columns c [] 0 p (omega arith) in
    record {
      kept = record {
        same_len = length_push basis.tags n ∙ ap (λ k. k + 1) same ∙ sym len;
        chosen = λ p h. elim (cases_lt p (length basis.columns)) [
          | inl l ↦
              subst (λ t. IsChosen columns old t (get_or (basis.columns ++ c ∷ []) p 0)) (sym (old_tag p l))
              (subst (IsChosen columns old (get_or basis.tags p 0)) (sym (old_column p l)) (o.kept.chosen p l))
          | inr m ↦
              let e : p ≡ length basis.columns = omega arith in
              subst (λ t. IsChosen columns old t (get_or (basis.columns ++ c ∷ []) p 0)) (sym (new_tag p e))
              (subst (IsChosen columns old n) (sym (new_column p e)) new)
        ];
        ascending = λ p q h i. elim (cases_lt q (length basis.columns)) [
          | inl l ↦ omega (arith, old_tag p (omega arith), old_tag q l, o.kept.ascending p q h l)
          | inr m ↦ omega (arith, old_tag p (omega arith), new_tag q (omega arith), o.before p (omega arith))
        ];
      };
      before = λ p h. elim (cases_lt p (length basis.columns)) [
        | inl l ↦ omega (arith, old_tag p l, o.before p l)
        | inr m ↦ omega (arith, new_tag p (omega arith))
      ];
      spans = λ v h. elim (free_sum_more columns old n v h) [
        | inl f ↦ spanned_push_old basis.columns c v (o.spans v f)
        | inr f ↦ spanned_push_new basis.columns c v (o.spans _ f.1)
      ];
    }
