-- Cells that are separate from those below them are in the basis solution, whatever found them.
use Rattle.std.proofs.Common.{◌≡◌, ℕ, zero, suc, ◌-◌, ◌^◌, ◌<◌, ◌≤◌, ◌⊎◌, Bool, true, false, nat_eq, List, [], ◌∷◌, ◌++◌, take, length, get_or, bit_xor, bit_and, sym, ◌∙◌, ap, subst, refl, inl}
use Rattle.std.proofs.Common.{inr, arith}
use Rattle.std.specs.Int.{bit_at}
use Rattle.std.specs.Int.Bits.{xor_comm, xor_zero_r, xor_lt}
use Rattle.std.proofs.lemmas.Bool.{cases_lt, false_from_ne_true, false≢true}
use Rattle.std.proofs.lemmas.List.{get_or_past}
use Rattle.std.proofs.lemmas.Nat.Bits.{bit_at_and, bit_at-zero}
use Rattle.gf2_solve.specs.Family.{Family}
use Rattle.gf2_solve.specs.Span.{subset_sum}
use Rattle.gf2_solve.proofs.XorLemmas.{xor_twice}
use Rattle.gf2_solve.proofs.SpanLemmas.{subset_sum-xor, subset_sum-zero}
use Rattle.wom_code.specs.Cells.{cell_at, IsAbove}
use Rattle.wom_code.specs.Packed.{word_bit, cells_of, IsRow}
use Rattle.wom_code.proofs.PackedLemmas.{get_or-cells_of, length-cells_of, word_bit-lt}
use Rattle.coset_code.specs.Sums.{syndrome, IsFreeSum}
use Rattle.coset_code.specs.Solution.{IsBasisSolution}
use Rattle.coset_code.specs.Coordinates.{HasCoordinates, IsFreeSet, IsChargedSet}
use Rattle.coset_code.specs.Rows.{IsLinear, IsSeparate, AreSeparate, IsTurned, IsLaid, HasGoneOver}
use Rattle.coset_code.proofs.ChargeLemmas.{bit_within}
use Rattle.coset_code.proofs.ChangeOfBasis.{kernel, free_sum_blank, syndrome_columns}
use Rattle.coset_code.proofs.OverLemmas.{left_within}
use Rattle.coset_code.proofs.TurnLemmas.{laid_above, laid_fresh}

-- ---- a linear function that is 0 at the coordinates of free cells is 0 at those of their sums

pub kept_zero : (columns coords : List ℕ) (full : Family) → HasCoordinates columns coords full → (old : List Bool) (f : ℕ → ℕ) → IsLinear f → (n x : ℕ) → x < 2 ^ length full.columns →
    ((k : ℕ) → k < n → cell_at old k ≡ false → f (get_or coords k 0) ≡ 0) → IsFreeSum columns old n (subset_sum x full.columns) → f x ≡ 0
unfolding IsFreeSum
kept_zero columns coords full s old f linear zero x h z sum = ap f (kernel columns full s.offered.kept x h sum) ∙ linear.zero
kept_zero columns coords full s old f linear (suc n) x h z (inl sum) = kept_zero columns coords full s old f linear n x h (λ k l. z k (omega arith)) sum
kept_zero columns coords full s old f linear (suc n) x h z (inr sum) =
    let c : ℕ = get_or coords n 0 in
    let P : ℕ → Type 0 = IsFreeSum columns old n in
    let both : bit_xor (get_or columns n 0) (subset_sum x full.columns) ≡ subset_sum (bit_xor c x) full.columns =
    sym (subset_sum-xor c x full.columns ∙ ap (λ y. bit_xor y (subset_sum x full.columns)) (s.sums n)) in
    let without : f (bit_xor c x) ≡ 0 =
    kept_zero columns coords full s old f linear n (bit_xor c x) (xor_lt (length full.columns) c x (s.within n) h) (λ k l. z k (omega arith)) (subst P both sum.1) in
    let here : f c ≡ 0 = z n (omega arith) sum.0 in
    sym (ap (λ y. bit_xor y (f x)) here ∙ xor_comm 0 (f x) ∙ xor_zero_r (f x)) ∙ sym (linear.sum c x) ∙ without

uncharged : (b : ℕ) → b < 2 → nat_eq b 1 ≡ false → b ≡ 0
uncharged zero h e = refl
uncharged (suc zero) h e = cc
uncharged (suc (suc b)) h e = absurd (omega arith)

charged : (b : ℕ) → b < 2 → nat_eq b 1 ≡ true → b ≡ 1
charged zero h e = cc
charged (suc zero) h e = refl
charged (suc (suc b)) h e = absurd (omega arith)

bit_of_free : (n : ℕ) (words : List ℕ) (cell : ℕ) → cell < n → cell_at (cells_of n words) cell ≡ false → word_bit words cell ≡ 0
bit_of_free n words cell h e = uncharged (word_bit words cell) (word_bit-lt words cell) (sym (get_or-cells_of n words cell false h) ∙ e)

bit_of_charged : (n : ℕ) (words : List ℕ) (cell : ℕ) → cell < n → cell_at (cells_of n words) cell ≡ true → word_bit words cell ≡ 1
bit_of_charged n words cell h e = charged (word_bit words cell) (word_bit-lt words cell) (sym (get_or-cells_of n words cell false h) ∙ e)

charged_within : (n : ℕ) (words : List ℕ) (cell : ℕ) → cell_at (cells_of n words) cell ≡ true → cell < n
charged_within n words cell e = elim (cases_lt cell n) [
  | inl h ↦ h
  | inr h ↦ absurd (false≢true (sym (get_or_past (cells_of n words) cell false (omega (arith, length-cells_of n words))) ∙ e))
]

pub unspanned : (columns coords : List ℕ) (full : Family) → HasCoordinates columns coords full → (old : List ℕ) (cell : ℕ) → cell < length columns → IsSeparate coords old cell →
    ¬ (IsFreeSum columns (cells_of (length columns) old) cell (get_or columns cell 0))
unspanned columns coords full s old cell h separate sum =
    let f : ℕ → ℕ = separate.0 in
    let x : ℕ = get_or coords cell 0 in
    let P : ℕ → Type 0 = IsFreeSum columns (cells_of (length columns) old) cell in
    let none : f x ≡ 0 =
    kept_zero columns coords full s (cells_of (length columns) old) f separate.1.linear cell x (s.within cell)
    (λ k l free. separate.1.below k l (bit_of_free (length columns) old k (omega arith) free)) (subst P (sym (s.sums cell)) sum) in
    let one : f x ≡ 1 = separate.1.one in
    absurd (omega arith)

-- ---- the cells that rows found are charged, and the rest is left to the full basis

pub record IsMidway (columns coords : List ℕ) (full : Family) (old mid : List Bool) (wanted : ℕ) : Type 0 where
  pub system : HasCoordinates columns coords full
  pub within : wanted < 2 ^ length full.columns
  pub above : IsAbove mid old
  pub fresh : (cell : ℕ) → cell_at old cell ≡ false → cell_at mid cell ≡ true → ¬ (IsFreeSum columns old cell (get_or columns cell 0))

midway_sum : (columns coords : List ℕ) (full : Family) (old mid new : List Bool) (wanted : ℕ) → IsMidway columns coords full old mid wanted →
    IsChargedSet columns mid new full (bit_xor wanted (syndrome coords mid)) 0 → syndrome columns new ≡ subset_sum wanted full.columns
midway_sum columns coords full old mid new wanted h c =
    let number : ℕ = subset_sum wanted full.columns in
    let u : ℕ = bit_xor wanted (syndrome coords mid) in
    let s : ℕ = syndrome columns mid in
    let left : subset_sum u full.columns ≡ bit_xor s number =
    subset_sum-xor wanted (syndrome coords mid) full.columns
    ∙ ap (bit_xor number) (syndrome_columns columns coords full h.system mid)
    ∙ xor_comm number s in
    sym (ap (bit_xor (syndrome columns new)) (subset_sum-zero full.columns) ∙ xor_zero_r (syndrome columns new))
    ∙ c.sum
    ∙ ap (bit_xor s) left
    ∙ xor_twice s number

midway_solution : (columns coords : List ℕ) (full : Family) (old mid new : List Bool) (wanted : ℕ) → IsMidway columns coords full old mid wanted →
    IsChargedSet columns mid new full (bit_xor wanted (syndrome coords mid)) 0 → IsBasisSolution columns old new
midway_solution columns coords full old mid new wanted h c = λ cell free charged spanned. by_mid cell free charged spanned (cell_at mid cell) refl
  where
    by_mid : (cell : ℕ) → cell_at old cell ≡ false → cell_at new cell ≡ true → IsFreeSum columns old cell (get_or columns cell 0) → (b : Bool) → cell_at mid cell ≡ b → ⊥
    by_mid cell free charged spanned true m = h.fresh cell free m spanned
    by_mid cell free charged spanned false m =
        let t = c.fresh cell m charged in
        let u : ℕ = bit_xor wanted (syndrome coords mid) in
        let k = h.system.offered.kept.chosen t.0 (bit_within u (length full.columns) t.0 (left_within columns coords full h.system wanted h.within mid) t.1) in
        let sum = free_sum_blank columns old cell (get_or columns cell 0) spanned in
        let column : get_or columns cell 0 ≡ get_or full.columns t.0 0 = ap (λ i. get_or columns i 0) (sym t.2) ∙ k.column_is in
        k.unspanned (subst (λ i. IsFreeSum columns [] i (get_or full.columns t.0 0)) (sym t.2) (subst (IsFreeSum columns [] cell) column sum))

bit_outside : (u m p : ℕ) → bit_and u m ≡ 0 → bit_at u p ≡ 1 → bit_at m p ≡ 0
bit_outside u m p e b =
    let z : bit_at (bit_and u m) p ≡ 0 = ap (λ x. bit_at x p) e ∙ bit_at-zero p in
    omega (arith, bit_at_and u m p)

-- what a call by rows knows once the cells are laid
pub record IsByRows (columns coords : List ℕ) (full : Family) (table old trial : List ℕ) (a b c wanted low : ℕ) : Type 0 where
  pub system : HasCoordinates columns coords full
  pub turned : IsTurned coords full table
  pub row : IsRow (length columns) old
  pub old_len : length old ≡ 5
  pub trial_len : length trial ≡ 5
  pub separate : AreSeparate coords old a b c
  pub laid : IsLaid old trial a b (bit_and c (2 ^ 63 - 1))
  pub within : wanted < 2 ^ length full.columns
  pub low_bits : (i : ℕ) → i < 128 → bit_at low i ≡ word_bit old i
  pub settled : bit_and (bit_xor wanted (syndrome coords (cells_of (length columns) trial))) low ≡ 0

pub midway_by : (columns coords : List ℕ) (full : Family) (table old trial : List ℕ) (a b c wanted low : ℕ) → IsByRows columns coords full table old trial a b c wanted low →
    IsMidway columns coords full (cells_of (length columns) old) (cells_of (length columns) trial) wanted
midway_by columns coords full table old trial a b c wanted low r =
    let n : ℕ = length columns in
    record {
      system = r.system;
      within = r.within;
      above = λ cell e.
          let h : cell < n = charged_within n old cell e in
          let one : word_bit trial cell ≡ 1 = laid_above old trial _ _ _ r.old_len r.laid cell (bit_of_charged n old cell h e) in
          get_or-cells_of n trial cell false h ∙ ap (λ x. nat_eq x 1) one;
      fresh = λ cell free now.
          let h : cell < n = charged_within n trial cell now in
          let found = laid_fresh coords old trial a b c r.old_len r.trial_len r.separate r.laid cell (bit_of_free n old cell h free) (bit_of_charged n trial cell h now) in
          unspanned columns coords full r.system old cell h found.1;
    }

-- the cells that are left are uncharged cells of the full basis
pub left_by : (columns coords : List ℕ) (full : Family) (table old trial : List ℕ) (a b c wanted low : ℕ) → IsByRows columns coords full table old trial a b c wanted low →
    IsFreeSet columns (cells_of (length columns) trial) full (bit_xor wanted (syndrome coords (cells_of (length columns) trial)))
left_by columns coords full table old trial a b c wanted low r =
    let n : ℕ = length columns in
    let u : ℕ = bit_xor wanted (syndrome coords (cells_of n trial)) in
    record {
      cells = λ p one.
          let l : p < length full.columns = bit_within u (length full.columns) p (left_within columns coords full r.system wanted r.within (cells_of n trial)) one in
          let small : p < 128 = omega (arith, r.turned.rank) in
          let k = r.system.offered.kept.chosen p l in
          let tag : get_or full.tags p 0 ≡ p = r.turned.tags p small in
          let inside : p < n = omega (arith, k.in_range) in
          let was : word_bit old p ≡ 0 = sym (r.low_bits p small) ∙ bit_outside u low p r.settled one in
          let free : cell_at (cells_of n trial) p ≡ false = false_from_ne_true (cell_at (cells_of n trial) p) (λ now.
          let found = laid_fresh coords old trial a b c r.old_len r.trial_len r.separate r.laid p was (bit_of_charged n trial p inside now) in
          absurd (omega (arith, found.0))) in
          record { in_range = k.in_range; free = ap (cell_at (cells_of n trial)) tag ∙ free; column_is = k.column_is };
      ascending = r.system.offered.kept.ascending;
    }

-- no cell past the last is laid
pub padding_by : (columns coords : List ℕ) (full : Family) (table old trial : List ℕ) (a b c wanted low : ℕ) → IsByRows columns coords full table old trial a b c wanted low →
    (i : ℕ) → length columns ≤ i → word_bit trial i ≡ 0
padding_by columns coords full table old trial a b c wanted low r i h = elim (bit_is' trial i) [
  | inl none ↦ none
  | inr one ↦
      let found = laid_fresh coords old trial a b c r.old_len r.trial_len r.separate r.laid i (r.row.padding i h) one in
      let f : ℕ → ℕ = found.1.0 in
      let past : get_or coords i 0 ≡ 0 = get_or_past coords i 0 (omega (arith, r.system.coords_len)) in
      let zero_is : f (get_or coords i 0) ≡ 0 = ap f past ∙ found.1.1.linear.zero in
      absurd (omega (arith, found.1.1.one))
]
  where
    bit_is' : (words : List ℕ) (i : ℕ) → (word_bit words i ≡ 0) ⊎ (word_bit words i ≡ 1)
    bit_is' words i = elim (cases_lt (word_bit words i) 1) [ inl l ↦ inl (omega arith) | inr m ↦ inr (omega (arith, word_bit-lt words i)) ]

pub gone_by : (columns coords : List ℕ) (full : Family) (table old trial after : List ℕ) (a b c wanted low : ℕ) → IsByRows columns coords full table old trial a b c wanted low →
    (IsFreeSet columns (cells_of (length columns) trial) full (bit_xor wanted (syndrome coords (cells_of (length columns) trial))) →
    IsChargedSet columns (cells_of (length columns) trial) (cells_of (length columns) after) full (bit_xor wanted (syndrome coords (cells_of (length columns) trial))) 0) →
    ((n : ℕ) → ((p : ℕ) → p < length full.columns → get_or full.tags p 0 < n) → (i : ℕ) → n ≤ i → word_bit after i ≡ word_bit trial i) → length after ≡ 5 →
    HasGoneOver columns old after (subset_sum wanted full.columns)
gone_by columns coords full table old trial after a b c wanted low r charge others len =
    let m = midway_by columns coords full table old trial a b c wanted low r in
    let done = charge (left_by columns coords full table old trial a b c wanted low r) in
    record {
      row = record {
        count = omega (arith, r.row.count, r.old_len);
        padding = λ i h. others (length columns) (λ p l. (r.system.offered.kept.chosen p l).in_range) i h ∙ padding_by columns coords full table old trial a b c wanted low r i h;
      };
      above = λ i e. done.above i (m.above i e);
      sum = midway_sum columns coords full _ _ _ wanted m done;
      solution = midway_solution columns coords full _ _ _ wanted m done;
    }

-- what a call wrote over a whole vector
pub all_written : (n : ℕ) (xs ys : List ℕ) → n ≡ length xs → take n (xs ++ ys) ≡ xs
all_written n xs ys e = ap (λ k. take k (xs ++ ys)) e ∙ front xs
  where
    front : (zs : List ℕ) → take (length zs) (zs ++ ys) ≡ zs
    front [] = refl
    front (z ∷ zs) = ap (λ t. z ∷ t) (front zs)
