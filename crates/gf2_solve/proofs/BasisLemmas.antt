-- A row more keeps a basis, and what a rest that is zero or not says of the span.
use Rattle.std.proofs.Common.{◌≡◌, ℕ, zero, suc, ◌+◌, ◌*◌, ◌^◌, ◌<◌, ◌≤◌, List, [], ◌∷◌, ◌++◌, length, get_or, set, cond, take, ◌%◌, replicate, bit_xor, sym, ◌∙◌, ap, subst, refl, inl, inr, arith}
use Rattle.std.specs.Prelude.{nat_lt, count_by}
use Rattle.std.proofs.lemmas.Grind.{pow_more}
use Rattle.std.specs.Int.Bits.{xor_zero_r, xor_lt}
use Rattle.std.proofs.lemmas.Bool.{cases_eq, cases_order, lt-ltb}
use Rattle.std.proofs.lemmas.List.{get_or-set_same, get_or-set_other, get_or_append_left, get_or_at, get_or_past, length-set, length_push, length-take-le, take_more_set}
use Rattle.std.proofs.lemmas.List.Sums.{sum_by-set, count_by-le-length}
use Rattle.std.proofs.lemmas.Nat.{pow_pos, one_shl}
use Rattle.gf2_solve.specs.Span.{subset_sum, IsSpanned}
use Rattle.gf2_solve.specs.Echelon.{residue, IsEchelon, IsBasis, IsReduction, IsStored}
use Rattle.gf2_solve.specs.Family.{Family, family}
use Rattle.gf2_solve.proofs.XorLemmas.{xor_twice}
use Rattle.gf2_solve.proofs.SpanLemmas.{subset_sum-xor, subset_sum_earlier, subset_sum_newest, spanned-subset_sum}
use Rattle.gf2_solve.proofs.ResidueLemmas.{residue-xor, residue-zero, residue_row, residue_set, residue-spanned}

zero_at : (n p : ℕ) → get_or (replicate {A = ℕ} n 0) p 0 ≡ 0
zero_at zero p = refl
zero_at (suc n) zero = refl
zero_at (suc n) (suc p) = zero_at n p

no_rows : (n : ℕ) → count_by (λ row. nat_lt 0 row) (replicate n 0) ≡ 0
no_rows zero = refl
no_rows (suc n) = omega (arith, no_rows n)

-- no row, no column
pub empty_basis : (rows sets : List ℕ) → rows ≡ replicate 128 0 → sets ≡ replicate 128 0 → IsBasis rows sets []
empty_basis rows sets e f =
    let row : (p : ℕ) → get_or rows p 0 ≡ 0 = λ p. ap (λ xs. get_or xs p 0) e ∙ zero_at 128 p in
    let set_at : (p : ℕ) → get_or sets p 0 ≡ 0 = λ p. ap (λ xs. get_or xs p 0) f ∙ zero_at 128 p in
    record {
      echelon = record { within = λ p. omega (arith, row p, pow_pos (p + 1)); leads = λ p h. absurd (omega (arith, row p)) };
      sums = λ p. sym (row p);
      sets_within = λ p. omega (arith, set_at p);
      cleared = λ i. residue-zero rows 128;
      rank = sym (ap (count_by (λ row. nat_lt 0 row)) e ∙ no_rows 128);
    }

-- a vector that is cleared is spanned, by its set
pub spanned_by : (rows sets columns : List ℕ) → IsBasis rows sets columns → (v s rest : ℕ) → IsReduction rows sets v s rest → rest ≡ 0 → subset_sum s columns ≡ v
spanned_by rows sets columns b v s rest r z = sym (xor_zero_r (subset_sum s columns)) ∙ ap (bit_xor (subset_sum s columns)) (sym z) ∙ r.sum columns b

pub spanned_at_zero : (rows sets columns : List ℕ) → IsBasis rows sets columns → (v s rest : ℕ) → IsReduction rows sets v s rest → rest ≡ 0 → IsSpanned columns v
spanned_at_zero rows sets columns b v s rest r z =
    let P : ℕ → Type 0 = IsSpanned columns in
    subst P (spanned_by rows sets columns b v s rest r z) (spanned-subset_sum s columns)

-- a vector that is not cleared is not spanned
pub not_spanned : (rows sets columns : List ℕ) → IsBasis rows sets columns → (v s rest : ℕ) → IsReduction rows sets v s rest → 0 < rest → ¬ (IsSpanned columns v)
not_spanned rows sets columns b v s rest r n h = r.uncleared n (r.same ∙ residue-spanned rows 128 columns b.cleared v h)

extended_echelon : (rows : List ℕ) (rest p : ℕ) → IsEchelon rows → p < length rows → 2 ^ p ≤ rest → rest < 2 ^ (p + 1) → IsEchelon (set rows p rest)
extended_echelon rows rest p e place reaches highest = record {
  within = λ q. elim (cases_eq q p) [
    | inl same ↦ subst (λ k. get_or (set rows p rest) k 0 < 2 ^ (k + 1)) (sym same) (omega (arith, get_or-set_same rows p rest 0 place))
    | inr other ↦ omega (arith, get_or-set_other rows p q rest 0 other, e.within q)
  ];
  leads = λ q h. elim (cases_eq q p) [
    | inl same ↦ subst (λ k. 2 ^ k ≤ get_or (set rows p rest) k 0) (sym same) (omega (arith, get_or-set_same rows p rest 0 place))
    | inr other ↦ let o : get_or (set rows p rest) q 0 ≡ get_or rows q 0 = get_or-set_other rows p q rest 0 other in omega (arith, e.leads q (omega arith))
  ];
}

-- one row more
rank_grows : (rows : List ℕ) (p rest : ℕ) → p < length rows → get_or rows p 0 ≡ 0 → 0 < rest →
    count_by (λ row. nat_lt 0 row) (set rows p rest) ≡ count_by (λ row. nat_lt 0 row) rows + 1
rank_grows rows p rest h z some =
    let f : ℕ → ℕ = λ row. cond (nat_lt 0 row) 1 0 in
    let old : f (get_or rows p 0) ≡ 0 = ap f z in
    let new : f rest ≡ 1 = ap (λ t. cond t 1 0) (lt-ltb 0 rest some) in
    omega (arith, sum_by-set f rows p rest 0 h)

-- a vector that is not spanned makes a larger basis
pub extended_basis : (rows sets columns : List ℕ) → IsBasis rows sets columns → length rows ≡ 128 → length sets ≡ 128 →
    (column s rest p : ℕ) → IsReduction rows sets column s rest → p < 128 → 2 ^ p ≤ rest → rest < 2 ^ (p + 1) →
    IsBasis (set rows p rest) (set sets p (bit_xor s (2 ^ length columns))) (columns ++ column ∷ [])
extended_basis rows sets columns b rows_len sets_len column s rest p r place reaches highest =
    let n : ℕ = length columns in
    let all : List ℕ = columns ++ column ∷ [] in
    let here : p < length rows = omega arith in
    let there : p < length sets = omega arith in
    let free : get_or rows p 0 ≡ 0 = r.free p reaches highest in
    let sum : bit_xor (subset_sum s columns) rest ≡ column = r.sum columns b in
    let within : s < 2 ^ n = r.within columns b in
    let wider : 2 ^ (n + 1) ≡ 2 ^ n * 2 = pow_more 2 n in
    let echelon : IsEchelon (set rows p rest) = extended_echelon rows rest p b.echelon here reaches highest in
    let new_sum : subset_sum (bit_xor s (2 ^ n)) all ≡ rest =
    subset_sum-xor s (2 ^ n) all
    ∙ ap (λ x. bit_xor x (subset_sum (2 ^ n) all)) (subset_sum_earlier s columns column within)
    ∙ ap (bit_xor (subset_sum s columns)) (subset_sum_newest columns column ∙ sym sum)
    ∙ xor_twice (subset_sum s columns) rest in
    let cleared : (i : ℕ) → residue (set rows p rest) 128 (get_or columns i 0) ≡ 0 =
    λ i. residue_set rows b.echelon p rest free 128 (get_or columns i 0) (b.cleared i) in
    let row_cleared : residue (set rows p rest) 128 rest ≡ 0 =
    ap (residue (set rows p rest) 128) (sym (get_or-set_same rows p rest 0 here)) ∙ residue_row (set rows p rest) echelon 128 p place in
    let new_cleared : residue (set rows p rest) 128 column ≡ 0 =
    ap (residue (set rows p rest) 128) (sym sum)
    ∙ residue-xor (set rows p rest) 128 (subset_sum s columns) rest
    ∙ ap (λ x. bit_xor x (residue (set rows p rest) 128 rest)) (residue-spanned (set rows p rest) 128 columns cleared (subset_sum s columns) (spanned-subset_sum s columns))
    ∙ row_cleared in
    record {
      echelon = echelon;
      sums = λ q. elim (cases_eq q p) [
        | inl same ↦ subst (λ k. subset_sum (get_or (set sets p (bit_xor s (2 ^ n))) k 0) all ≡ get_or (set rows p rest) k 0) (sym same)
            (ap (λ x. subset_sum x all) (get_or-set_same sets p (bit_xor s (2 ^ n)) 0 there) ∙ new_sum ∙ sym (get_or-set_same rows p rest 0 here))
        | inr other ↦
            ap (λ x. subset_sum x all) (get_or-set_other sets p q (bit_xor s (2 ^ n)) 0 other)
            ∙ subset_sum_earlier (get_or sets q 0) columns column (b.sets_within q)
            ∙ b.sums q
            ∙ sym (get_or-set_other rows p q rest 0 other)
      ];
      sets_within = λ q. subst (λ k. get_or (set sets p (bit_xor s (2 ^ n))) q 0 < 2 ^ k) (sym (length_push columns column)) (elim (cases_eq q p) [
        | inl same ↦ subst (λ k. get_or (set sets p (bit_xor s (2 ^ n))) k 0 < 2 ^ (n + 1)) (sym same)
            (omega (arith, get_or-set_same sets p (bit_xor s (2 ^ n)) 0 there, xor_lt (n + 1) s (2 ^ n) (omega arith) (omega (arith, pow_pos n))))
        | inr other ↦ omega (arith, get_or-set_other sets p q (bit_xor s (2 ^ n)) 0 other, b.sets_within q)
      ]);
      cleared = λ i. elim (cases_order i n) [
        | inl same ↦ ap (λ k. residue (set rows p rest) 128 (get_or all k 0)) same ∙ ap (residue (set rows p rest) 128) (get_or_at columns column [] 0 n refl) ∙ new_cleared
        | inr (inl before) ↦ ap (residue (set rows p rest) 128) (get_or_append_left columns (column ∷ []) 0 i before) ∙ cleared i
        | inr (inr after) ↦ ap (residue (set rows p rest) 128) (get_or_past all i 0 (omega (arith, length_push columns column))) ∙ residue-zero (set rows p rest) 128
      ];
      rank = length_push columns column ∙ ap (λ k. k + 1) b.rank ∙ sym (rank_grows rows p rest here free (omega (arith, pow_pos p)));
    }

-- there is room for a vector that is not spanned
pub has_room : (rows sets columns : List ℕ) → IsBasis rows sets columns → length rows ≡ 128 → length sets ≡ 128 →
    (column s rest p : ℕ) → IsReduction rows sets column s rest → p < 128 → 2 ^ p ≤ rest → rest < 2 ^ (p + 1) → length columns < 128
has_room rows sets columns b rows_len sets_len column s rest p r place reaches highest =
    let new = extended_basis rows sets columns b rows_len sets_len column s rest p r place reaches highest in
    omega (arith, new.rank, length_push columns column, count_by-le-length (λ row. nat_lt 0 row) (set rows p rest), length-set rows p rest)

-- the same, of the tables with their room
pub stored_more : (rows sets columns tags : List ℕ) (taken : ℕ) → IsStored rows sets columns tags taken →
    (column tag s rest p : ℕ) → IsReduction rows sets column s rest → p < 128 → 2 ^ p ≤ rest → rest < 2 ^ (p + 1) →
    (taken < 128) × IsStored (set rows p rest) (set sets p (bit_xor s (1 * 2 ^ taken % 2 ^ 128))) (set columns taken column) (set tags taken tag) (taken + 1)
stored_more rows sets columns tags taken k column tag s rest p r place reaches highest =
    let len : length (take taken columns) ≡ taken = length-take-le taken columns (omega (arith, k.columns_len, k.in_room)) in
    let room : taken < 128 = omega (arith, len, has_room rows sets (take taken columns) k.basis k.rows_len k.sets_len column s rest p r place reaches highest) in
    let bit : 2 ^ length (take taken columns) ≡ 1 * 2 ^ taken % 2 ^ 128 = ap (λ n. 2 ^ n) len ∙ sym (one_shl taken 128 room) in
    let more : take taken columns ++ column ∷ [] ≡ take (taken + 1) (set columns taken column) = sym (take_more_set columns taken column (omega (arith, k.columns_len))) in
    let new = extended_basis rows sets (take taken columns) k.basis k.rows_len k.sets_len column s rest p r place reaches highest in (
      room,
      record {
        rows_len = length-set rows p rest ∙ k.rows_len;
        sets_len = length-set sets p _ ∙ k.sets_len;
        columns_len = length-set columns taken column ∙ k.columns_len;
        tags_len = length-set tags taken tag ∙ k.tags_len;
        basis = subst (λ b. IsBasis (set rows p rest) (set sets p (bit_xor s b)) (take (taken + 1) (set columns taken column))) bit
            (subst (IsBasis (set rows p rest) (set sets p (bit_xor s (2 ^ length (take taken columns))))) more new);
        in_room = omega arith;
      },
    )

-- the family that these tables show
pub family_more : (columns tags : List ℕ) (taken column tag : ℕ) (old : Family) → family (take taken columns) (take taken tags) ≡ old →
    taken < length columns → taken < length tags →
    (taken ≡ length old.columns)
    × (family (take (taken + 1) (set columns taken column)) (take (taken + 1) (set tags taken tag)) ≡ family (old.columns ++ column ∷ []) (old.tags ++ tag ∷ []))
family_more columns tags taken column tag old e h i =
    let a : take (taken + 1) (set columns taken column) ≡ old.columns ++ column ∷ [] = take_more_set columns taken column h ∙ ap (λ (f : Family). f.columns ++ column ∷ []) e in
    let b : take (taken + 1) (set tags taken tag) ≡ old.tags ++ tag ∷ [] = take_more_set tags taken tag i ∙ ap (λ (f : Family). f.tags ++ tag ∷ []) e in (
      sym (length-take-le taken columns (omega arith)) ∙ ap (λ (f : Family). length f.columns) e,
      ap (λ xs. family xs (take (taken + 1) (set tags taken tag))) a ∙ ap (family (old.columns ++ column ∷ [])) b,
    )
