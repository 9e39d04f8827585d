-- The tests of free sums and of basis solutions are the relations.
use Rattle.std.proofs.Common.{◌≡◌, ℕ, zero, suc, ◌≤◌, ◌⊎◌, ◌↔◌, Bool, true, false, not, ◌||◌, List, length, get_or, bit_xor, sym, ◌∙◌, ap, subst, refl, inl, inr, eq-eqb, arith}
use Rattle.std.specs.List.{range_with_len}
use Rattle.std.proofs.lemmas.Bool.{and_parts, and_from, eqb-true, cases_lt, true≢false}
use Rattle.std.proofs.lemmas.List.{get_or_past}
use Rattle.std.proofs.lemmas.List.FromFn.{length-range_with_len, get_or-range_with_len}
use Rattle.std.proofs.lemmas.List.Sums.{AllPass-from_list_all, list_all-from_AllPass}
use Rattle.wom_code.specs.Cells.{cell_at}
use Rattle.coset_code.specs.Sums.{IsFreeSum, is_free_sum}
use Rattle.coset_code.specs.Solution.{IsBasisSolution, is_basis_cell, is_basis_solution}

-- ---- free sums

either_to : (a b : Bool) → (a || b) ≡ true → (a ≡ true) ⊎ (b ≡ true)
either_to true b t = inl refl
either_to false b t = inr t

either_first : (a b : Bool) → a ≡ true → (a || b) ≡ true
either_first true b e = refl
either_first false b e = absurd (true≢false (sym e))

either_second : (a b : Bool) → b ≡ true → (a || b) ≡ true
either_second true b e = refl
either_second false b e = e

not_to : (a : Bool) → not a ≡ true → a ≡ false
not_to true e = sym e
not_to false e = refl

not_from : (a : Bool) → a ≡ false → not a ≡ true
not_from true e = sym e
not_from false e = refl

pub free_sum_to : (columns : List ℕ) (old : List Bool) (n v : ℕ) → is_free_sum columns old n v ≡ true → IsFreeSum columns old n v
unfolding is_free_sum IsFreeSum
free_sum_to columns old zero v t = eqb-true v 0 t
free_sum_to columns old (suc n) v t = elim (either_to _ _ t) [
  | inl p ↦ inl (free_sum_to columns old n v p)
  | inr p ↦ let parts = and_parts _ _ p in inr (not_to (cell_at old n) parts.0, free_sum_to columns old n (bit_xor (get_or columns n 0) v) parts.1)
]

pub free_sum_from : (columns : List ℕ) (old : List Bool) (n v : ℕ) → IsFreeSum columns old n v → is_free_sum columns old n v ≡ true
unfolding is_free_sum IsFreeSum
free_sum_from columns old zero v e = eq-eqb v 0 e
free_sum_from columns old (suc n) v (inl p) = either_first _ _ (free_sum_from columns old n v p)
free_sum_from columns old (suc n) v (inr p) = either_second _ _ (and_from _ _ (not_from (cell_at old n) p.0) (free_sum_from columns old n (bit_xor (get_or columns n 0) v) p.1))

pub free_sum_iff : (columns : List ℕ) (old : List Bool) (n v : ℕ) → is_free_sum columns old n v ≡ true ↔ IsFreeSum columns old n v
free_sum_iff columns old n v = (free_sum_to columns old n v, free_sum_from columns old n v)

-- ---- basis solutions

cell_to : (o c s : Bool) → (o || not c || not s) ≡ true → o ≡ false → c ≡ true → s ≡ true → ⊥
cell_to true c s t p q r = true≢false p
cell_to false false s t p q r = true≢false (sym q)
cell_to false true true t p q r = true≢false (sym t)
cell_to false true false t p q r = true≢false (sym r)

cell_from : (o c s : Bool) → (o ≡ false → c ≡ true → s ≡ true → ⊥) → (o || not c || not s) ≡ true
cell_from true c s h = refl
cell_from false false s h = refl
cell_from false true false h = refl
cell_from false true true h = absurd (h refl refl refl)

pub basis_solution_to : (columns : List ℕ) (old new : List Bool) → length new ≤ length columns → is_basis_solution columns old new ≡ true → IsBasisSolution columns old new
unfolding is_basis_solution
basis_solution_to columns old new short t cell free charged sum = elim (cases_lt cell (length columns)) [
  | inl l ↦
      let here : get_or (range_with_len 0 (length columns)) cell 0 ≡ cell = get_or-range_with_len 0 (length columns) cell 0 l ∙ omega arith in
      let passes = AllPass-from_list_all (is_basis_cell columns old new) (range_with_len 0 (length columns)) t cell 0 (omega (arith, length-range_with_len 0 (length columns))) in
      let tested : is_basis_cell columns old new cell ≡ true = sym (ap (is_basis_cell columns old new) here) ∙ passes in
      cell_to (cell_at old cell) (cell_at new cell) (is_free_sum columns old cell (get_or columns cell 0)) tested free charged (free_sum_from columns old cell (get_or columns cell 0) sum)
  | inr m ↦ true≢false (sym charged ∙ get_or_past new cell false (omega arith))
]

pub basis_solution_from : (columns : List ℕ) (old new : List Bool) → IsBasisSolution columns old new → is_basis_solution columns old new ≡ true
unfolding is_basis_solution
basis_solution_from columns old new h = list_all-from_AllPass (is_basis_cell columns old new) (range_with_len 0 (length columns)) (λ cell d l.
    let here : get_or (range_with_len 0 (length columns)) cell d ≡ cell = get_or-range_with_len 0 (length columns) cell d (omega (arith, length-range_with_len 0 (length columns))) ∙ omega arith in
    ap (is_basis_cell columns old new) here
    ∙ cell_from (cell_at old cell) (cell_at new cell) (is_free_sum columns old cell (get_or columns cell 0))
    (λ free charged sum. h cell free charged (free_sum_to columns old cell (get_or columns cell 0) sum)))

pub basis_solution_iff : (columns : List ℕ) (old new : List Bool) → length new ≤ length columns → is_basis_solution columns old new ≡ true ↔ IsBasisSolution columns old new
basis_solution_iff columns old new short = (basis_solution_to columns old new short, basis_solution_from columns old new)

-- a basis solution passes the test, also by other names of the table and the cells
pub solution_given : (columns columns' : List ℕ) (old old' new new' : List Bool) → columns ≡ columns' → old ≡ old' → new ≡ new' →
    IsBasisSolution columns old new → is_basis_solution columns' old' new' ≡ true
solution_given columns columns' old old' new new' e f g h =
    subst (λ x. is_basis_solution x old' new' ≡ true) e (subst (λ x. is_basis_solution columns x new' ≡ true) f
    (subst (λ x. is_basis_solution columns old x ≡ true) g (basis_solution_from columns old new h)))
