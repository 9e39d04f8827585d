-- Both sets of cells of a call together are the basis solution.
use Rattle.std.proofs.Common.{◌≡◌, ℕ, ◌^◌, ◌<◌, Bool, true, false, List, [], length, get_or, bit_xor, bit_and, sym, ◌∙◌, ap, subst, refl, arith}
use Rattle.std.specs.Int.{bit_at}
use Rattle.std.specs.Int.Bits.{xor_assoc, xor_comm, xor_self, xor_zero_r, xor_lt}
use Rattle.std.proofs.lemmas.Bool.{false_from_ne_true}
use Rattle.std.proofs.lemmas.Nat.Bits.{bit_at_and, bit_at-zero}
use Rattle.gf2_solve.specs.Family.{Family}
use Rattle.gf2_solve.specs.Span.{subset_sum, IsSpanned}
use Rattle.gf2_solve.proofs.XorLemmas.{xor_twice}
use Rattle.gf2_solve.proofs.SpanLemmas.{subset_sum-xor, subset_sum-zero, spanned-subset_sum, spanned-xor}
use Rattle.wom_code.specs.Cells.{cell_at, IsAbove, Carries}
use Rattle.wom_code.specs.Packed.{word_bit, cells_of}
use Rattle.coset_code.specs.Sums.{syndrome, bits_of, IsFreeSum}
use Rattle.coset_code.specs.Code.{coset_message}
use Rattle.coset_code.proofs.MessageLemmas.{cells_of_number}
use Rattle.coset_code.specs.Solution.{IsBasisSolution, IsFreeBasis}
use Rattle.coset_code.specs.Coordinates.{HasCoordinates, IsMasked, IsFreeSet, IsChargedSet}
use Rattle.coset_code.proofs.ChargeLemmas.{bit_within}
use Rattle.coset_code.proofs.ChangeOfBasis.{and_xor, and_unit, free_sum-zero, free_sum_blank, unit_at, masked_sum, syndrome_columns, syndrome_masked, syndrome_within}

-- ---- where there is no solution

-- a message outside the span of all columns
pub none_wanted : (columns coords : List ℕ) (full : Family) → HasCoordinates columns coords full → (old : List Bool) (number : ℕ) → ¬ (IsSpanned full.columns number) →
    ¬ (IsFreeSum columns old (length columns) (bit_xor number (syndrome columns old)))
none_wanted columns coords full s old number none h =
    let u : ℕ = syndrome columns old in
    let P : ℕ → Type 0 = IsSpanned full.columns in
    let one = s.offered.spans (bit_xor number u) (free_sum_blank columns old (length columns) (bit_xor number u) h) in
    let two = subst P (syndrome_columns columns coords full s old) (spanned-subset_sum (syndrome coords old) full.columns) in
    let back : bit_xor (bit_xor number u) u ≡ number = xor_assoc number u u ∙ ap (bit_xor number) (xor_self u) ∙ xor_zero_r number in
    none (subst P back (spanned-xor full.columns (bit_xor number u) u one two))

-- coordinates at charged cells that the other cells do not bring about
pub none_masked : (columns coords masked : List ℕ) (mask : ℕ) (full : Family) → HasCoordinates columns coords full → IsMasked coords mask masked → (old : List Bool) (number wanted : ℕ) →
    wanted < 2 ^ length full.columns → subset_sum wanted full.columns ≡ number →
    ¬ (IsFreeSum masked old (length masked) (bit_and (bit_xor wanted (syndrome coords old)) mask)) →
    ¬ (IsFreeSum columns old (length columns) (bit_xor number (syndrome columns old)))
none_masked columns coords masked mask full s m old number wanted within e none h =
    let c : ℕ = syndrome coords old in
    let P : ℕ → Type 0 = IsFreeSum columns old (length columns) in
    let sum : bit_xor number (syndrome columns old) ≡ subset_sum (bit_xor wanted c) full.columns =
    ap (λ x. bit_xor x (syndrome columns old)) (sym e) ∙ ap (bit_xor (subset_sum wanted full.columns)) (sym (syndrome_columns columns coords full s old))
    ∙ sym (subset_sum-xor wanted c full.columns) in
    let len : length columns ≡ length masked = sym s.coords_len ∙ sym m.masked_len in
    let small : bit_xor wanted c < 2 ^ length full.columns = xor_lt (length full.columns) wanted c within (syndrome_within columns coords full s old) in
    none (subst (λ n. IsFreeSum masked old n (bit_and (bit_xor wanted c) mask)) len (masked_sum columns coords masked mask full s m old (length columns) (bit_xor wanted c) small (subst P sum h)))

-- ---- where there is one

-- the cells at charged places of the full basis were charged, so that no coordinate in the mask is left
pub record IsHalfWay (columns coords masked : List ℕ) (mask : ℕ) (full work : Family) (old mid : List Bool) (wanted set : ℕ) : Type 0 where
  pub system : HasCoordinates columns coords full
  pub masks : IsMasked coords mask masked
  pub wanted_within : wanted < 2 ^ length full.columns
  pub places : (p : ℕ) → p < length full.columns → bit_at mask p ≡ 0 → cell_at old (get_or full.tags p 0) ≡ false
  pub basis : IsFreeBasis masked old work
  pub set_within : set < 2 ^ length work.columns
  pub set_sum : subset_sum set work.columns ≡ bit_and (bit_xor wanted (syndrome coords old)) mask
  pub charged : IsChargedSet masked old mid work set 0

left_masked : (columns coords masked : List ℕ) (mask : ℕ) (full work : Family) (old mid : List Bool) (wanted set : ℕ) → IsHalfWay columns coords masked mask full work old mid wanted set →
    bit_and (bit_xor wanted (syndrome coords mid)) mask ≡ 0
left_masked columns coords masked mask full work old mid wanted set h =
    let a : ℕ = bit_and (syndrome coords old) mask in
    let w : ℕ = bit_and wanted mask in
    let goal_is : subset_sum set work.columns ≡ bit_xor w a = h.set_sum ∙ and_xor wanted (syndrome coords old) mask in
    let mid_is : bit_and (syndrome coords mid) mask ≡ w =
    sym (syndrome_masked coords masked mask h.masks mid)
    ∙ sym (ap (bit_xor (syndrome masked mid)) (subset_sum-zero work.columns) ∙ xor_zero_r (syndrome masked mid))
    ∙ h.charged.sum
    ∙ ap (λ x. bit_xor x (subset_sum set work.columns)) (syndrome_masked coords masked mask h.masks old)
    ∙ ap (bit_xor a) (goal_is ∙ xor_comm w a)
    ∙ xor_twice a w in
    and_xor wanted (syndrome coords mid) mask ∙ ap (bit_xor w) mid_is ∙ xor_self w

pub left_within : (columns coords : List ℕ) (full : Family) → HasCoordinates columns coords full → (wanted : ℕ) → wanted < 2 ^ length full.columns → (cells : List Bool)
    → bit_xor wanted (syndrome coords cells) < 2 ^ length full.columns
left_within columns coords full s wanted h cells = xor_lt (length full.columns) wanted (syndrome coords cells) h (syndrome_within columns coords full s cells)

bit_outside : (u m p : ℕ) → bit_and u m ≡ 0 → bit_at u p ≡ 1 → bit_at m p ≡ 0
bit_outside u m p e b =
    let z : bit_at (bit_and u m) p ≡ 0 = ap (λ x. bit_at x p) e ∙ bit_at-zero p in
    omega (arith, bit_at_and u m p)

-- the cells that are left to charge are uncharged
pub left_free : (columns coords masked : List ℕ) (mask : ℕ) (full work : Family) (old mid : List Bool) (wanted set : ℕ) → IsHalfWay columns coords masked mask full work old mid wanted set →
    IsFreeSet columns mid full (bit_xor wanted (syndrome coords mid))
left_free columns coords masked mask full work old mid wanted set h =
    let u : ℕ = bit_xor wanted (syndrome coords mid) in
    let n : ℕ = length full.columns in
    record {
      cells = λ p b.
          let l : p < n = bit_within u n p (left_within columns coords full h.system wanted h.wanted_within mid) b in
          let k = h.system.offered.kept.chosen p l in
          let cell : ℕ = get_or full.tags p 0 in
          let outside : bit_at mask p ≡ 0 = bit_outside u mask p (left_masked columns coords masked mask full work old mid wanted set h) b in
          let was : cell_at old cell ≡ false = h.places p l outside in
          let none : get_or masked cell 0 ≡ 0 = h.masks.masks cell ∙ ap (λ x. bit_and x mask) (unit_at columns coords full h.system p l) ∙ and_unit p mask outside in
          record {
            in_range = k.in_range;
            free = false_from_ne_true (cell_at mid cell) (λ now.
                let t = h.charged.fresh cell was now in
                let j = h.basis.chosen t.0 (bit_within set (length work.columns) t.0 h.set_within t.1) in
                let zero_is : 0 ≡ get_or work.columns t.0 0 = sym none ∙ ap (λ c. get_or masked c 0) (sym t.2) ∙ j.column_is in
                let P : ℕ → Type 0 = IsFreeSum masked old (get_or work.tags t.0 0) in
                j.unspanned (subst P zero_is (free_sum-zero masked old (get_or work.tags t.0 0))));
            column_is = k.column_is;
          };
      ascending = h.system.offered.kept.ascending;
    }

-- what both sets of cells make together
pub record IsThere (columns : List ℕ) (old new : List Bool) (number : ℕ) : Type 0 where
  pub above : IsAbove new old
  pub sum : syndrome columns new ≡ number
  pub solution : IsBasisSolution columns old new

pub there : (columns coords masked : List ℕ) (mask : ℕ) (full work : Family) (old mid new : List Bool) (wanted set number : ℕ) → IsHalfWay columns coords masked mask full work old mid wanted set →
    IsChargedSet columns mid new full (bit_xor wanted (syndrome coords mid)) 0 → subset_sum wanted full.columns ≡ number → IsThere columns old new number
there columns coords masked mask full work old mid new wanted set number h c e =
    let u : ℕ = bit_xor wanted (syndrome coords mid) in
    let s : ℕ = syndrome columns mid in
    let left : subset_sum u full.columns ≡ bit_xor s number =
    subset_sum-xor wanted (syndrome coords mid) full.columns
    ∙ ap (λ x. bit_xor x (subset_sum (syndrome coords mid) full.columns)) e
    ∙ ap (bit_xor number) (syndrome_columns columns coords full h.system mid)
    ∙ xor_comm number s in
    record {
      above = λ i o. c.above i (h.charged.above i o);
      sum =
          sym (ap (bit_xor (syndrome columns new)) (subset_sum-zero full.columns) ∙ xor_zero_r (syndrome columns new))
          ∙ c.sum
          ∙ ap (bit_xor s) left
          ∙ xor_twice s number;
      solution = λ cell free charged spanned. by_mid cell free charged spanned (cell_at mid cell) refl;
    }
  where
    by_mid : (cell : ℕ) → cell_at old cell ≡ false → cell_at new cell ≡ true → IsFreeSum columns old cell (get_or columns cell 0) → (b : Bool) → cell_at mid cell ≡ b → ⊥
    by_mid cell free charged spanned true m =
        let t = h.charged.fresh cell free m in
        let j = h.basis.chosen t.0 (bit_within set (length work.columns) t.0 h.set_within t.1) in
        let P : ℕ → Type 0 = IsFreeSum columns old cell in
        let x : ℕ = get_or coords cell 0 in
        let sum = masked_sum columns coords masked mask full h.system h.masks old cell x (h.system.within cell) (subst P (sym (h.system.sums cell)) spanned) in
        let column : bit_and x mask ≡ get_or work.columns t.0 0 = sym (h.masks.masks cell) ∙ ap (λ k. get_or masked k 0) (sym t.2) ∙ j.column_is in
        j.unspanned (subst (λ k. IsFreeSum masked old k (get_or work.columns t.0 0)) (sym t.2) (subst (IsFreeSum masked old cell) column sum))
    by_mid cell free charged spanned false m =
        let t = c.fresh cell m charged in
        let u : ℕ = bit_xor wanted (syndrome coords mid) in
        let k = h.system.offered.kept.chosen t.0 (bit_within u (length full.columns) t.0 (left_within columns coords full h.system wanted h.wanted_within mid) t.1) in
        let sum = free_sum_blank columns old cell (get_or columns cell 0) spanned in
        let column : get_or columns cell 0 ≡ get_or full.columns t.0 0 = ap (λ i. get_or columns i 0) (sym t.2) ∙ k.column_is in
        k.unspanned (subst (λ i. IsFreeSum columns [] i (get_or full.columns t.0 0)) (sym t.2) (subst (IsFreeSum columns [] cell) column sum))

-- the vectors of a set of a free basis
pub free_set_of : (columns : List ℕ) (old : List Bool) (basis : Family) (set : ℕ) → IsFreeBasis columns old basis → set < 2 ^ length basis.columns → IsFreeSet columns old basis set
free_set_of columns old basis set f within = record {
  cells = λ p b. let k = f.chosen p (bit_within set (length basis.columns) p within b) in record { in_range = k.in_range; free = k.free; column_is = k.column_is };
  ascending = f.ascending;
}

-- such cells carry the message
pub carried : (k : ℕ) (columns : List ℕ) (old new : List Bool) (number : ℕ) (message : List ℕ) → ((i : ℕ) → bit_at number i ≡ word_bit message i) → IsThere columns old new number →
    Carries (coset_message k columns) old (cells_of k message) new
carried k columns old new number message bits t = record { above = t.above; decodes = ap (bits_of k) t.sum ∙ sym (cells_of_number k number message (λ i. sym (bits i))) }
