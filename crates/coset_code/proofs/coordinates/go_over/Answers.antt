-- The first set settles the coordinates at charged cells, and the uncharged cells of the basis bring about the rest.
use Rattle.std.proofs.Common.{◌≡◌, ℕ, ◌^◌, ◌<◌, List, Bool, false, nat_eq, length, get_or, bit_xor, bit_and, sym, ◌∙◌, ap, subst, refl, arith}
use Rattle.gf2_solve.specs.Family.{Family}
use Rattle.wom_code.specs.Packed.{IsRow, word_bit, cells_of}
use Rattle.wom_code.proofs.PackedLemmas.{get_or-cells_of}
use Rattle.coset_code.specs.Sums.{syndrome, IsFreeSum}
use Rattle.coset_code.specs.Solution.{IsFreeBasis}
use Rattle.coset_code.specs.Coordinates.{HasCoordinates, IsFreeSet, IsChargedSet}
use Rattle.coset_code.proofs.NoneOver.{IsMessage, none_over}
use Rattle.coset_code.proofs.ChangeOfBasis.{unit_at}
use Rattle.coset_code.proofs.CoordinateLemmas.{read}
use Rattle.coset_code.proofs.OverLemmas.{none_wanted, none_masked, left_within, left_free, there, free_set_of, carried, IsHalfWay, IsThere}
use Rattle.coset_code.proofs.coordinates.go_over.Goals as goal

pub charged_places-mask-requires-clause-units : goal.charged_places-mask-requires-clause-units
charged_places-mask-requires-clause-units c =
    unit_at c.args.system.now.columns.items c.deref-coords.result.now c.args.system.now.full (read c.requires.system.coordinates c.deref-coords.ensures.value)

pub returns-in-None-clause-went : goal.returns-in-None-clause-went
returns-in-None-clause-went c =
    let m : IsMessage c.args.bits c.number_of.result c.args.message.now = record { bits = c.number_of.ensures; row = c.requires.message } in (
      none_over c.args.bits c.args.system.now.columns.items _ c.number_of.result c.args.message.now c.requires.table m
          (none_wanted c.args.system.now.columns.items c.args.system.now.coords.items c.args.system.now.full c.requires.system.coordinates _ c.number_of.result (c.in-None.ensures.none.0 refl)),
      refl,
    )

pub charge_set-requires-in-Some-find_solution-clause-set : goal.charge_set-requires-in-Some-find_solution-clause-set
charge_set-requires-in-Some-find_solution-clause-set c =
    let columns : List ℕ = c.args.system.now.columns.items in
    let coords : List ℕ = c.deref-coords.result.now in
    let mid : List Bool = cells_of (length coords) c.charge_set.new.row in
    let small = left_within columns coords c.args.system.now.full (read c.requires.system.coordinates c.deref-coords.ensures.value) c.in-Some.wanted c.in-Some.ensures.within mid in
    subst (λ s. bit_xor c.in-Some.wanted s < 2 ^ length c.args.system.now.full.columns) (sym c.syndrome_of-in-Some-find_solution.ensures) small

pub returns-in-None-find_solution-clause-went : goal.returns-in-None-find_solution-clause-went
returns-in-None-find_solution-clause-went c =
    let columns : List ℕ = c.args.system.now.columns.items in
    let coords : List ℕ = c.deref-coords.result.now in
    let masked : List ℕ = c.mask_all.new.masked in
    let s : HasCoordinates columns coords c.args.system.now.full = read c.requires.system.coordinates c.deref-coords.ensures.value in
    let n : ℕ = length columns in
    let words : List ℕ = c.args.old.now in
    let mask : ℕ = c.charged_places-mask.result in
    let wanted : ℕ = c.in-Some.wanted in
    let m : IsMessage c.args.bits c.number_of.result c.args.message.now = record { bits = c.number_of.ensures; row = c.requires.message } in
    let len : length masked ≡ n = c.mask_all.ensures.masked_len ∙ s.coords_len in
    let sum : c.syndrome_of.result ≡ syndrome coords (cells_of n words) = c.syndrome_of.ensures ∙ ap (λ k. syndrome coords (cells_of k words)) s.coords_len in
    let none : ¬ (IsFreeSum masked (cells_of n words) (length masked) (bit_and (bit_xor wanted (syndrome coords (cells_of n words))) mask)) =
    subst (λ s. ¬ (IsFreeSum masked (cells_of n words) (length masked) (bit_and (bit_xor wanted s) mask))) sum
    (subst (λ k. ¬ (IsFreeSum masked (cells_of k words) (length masked) (bit_and (bit_xor wanted c.syndrome_of.result) mask))) len c.in-None-find_solution.ensures.none) in (
      none_over c.args.bits columns (cells_of n words) c.number_of.result c.args.message.now c.requires.table m
          (none_masked columns coords masked mask c.args.system.now.full s c.mask_all.ensures
          (cells_of n words) c.number_of.result wanted c.in-Some.ensures.within c.in-Some.ensures.found none),
      refl,
    )

pub returns-in-Some-find_solution-clause-went : goal.returns-in-Some-find_solution-clause-went
returns-in-Some-find_solution-clause-went c =
    let columns : List ℕ = c.args.system.now.columns.items in
    let coords : List ℕ = c.deref-coords.result.now in
    let masked : List ℕ = c.mask_all.new.masked in
    let full : Family = c.args.system.now.full in
    let work : Family = c.find_solution.new.basis in
    let n : ℕ = length columns in
    let words : List ℕ = c.args.old.now in
    let old : List Bool = cells_of n words in
    let halfway : List ℕ = c.charge_set.new.row in
    let mid : List Bool = cells_of n halfway in
    let after : List ℕ = c.charge_set-in-Some-find_solution.new.row in
    let mask : ℕ = c.charged_places-mask.result in
    let wanted : ℕ = c.in-Some.wanted in
    let set : ℕ = c.in-Some-find_solution.set in
    let s : HasCoordinates columns coords full = read c.requires.system.coordinates c.deref-coords.ensures.value in
    let len : length masked ≡ n = c.mask_all.ensures.masked_len ∙ s.coords_len in
    let sum : c.syndrome_of.result ≡ syndrome coords old = c.syndrome_of.ensures ∙ ap (λ k. syndrome coords (cells_of k words)) s.coords_len in
    let sum_mid : c.syndrome_of-in-Some-find_solution.result ≡ syndrome coords mid = c.syndrome_of-in-Some-find_solution.ensures ∙ ap (λ k. syndrome coords (cells_of k halfway)) s.coords_len in
    let copied : c.copy_from_slice.new.self ≡ words = c.copy_from_slice.ensures.after in
    let basis : IsFreeBasis masked old work = subst (λ k. IsFreeBasis masked (cells_of k words) work) len c.in-Some-find_solution.ensures.basis in
    let first : IsFreeSet masked old work set → IsChargedSet masked old mid work set 0 =
    subst (λ ws. IsFreeSet masked (cells_of n ws) work set → IsChargedSet masked (cells_of n ws) mid work set 0) copied
    (subst (λ k. IsFreeSet masked (cells_of k c.copy_from_slice.new.self) work set → IsChargedSet masked (cells_of k c.copy_from_slice.new.self) (cells_of k halfway) work set 0) len
    (c.charge_set.ensures.charged masked)) in
    let half : IsHalfWay columns coords masked mask full work old mid wanted set = record {
      system = s;
      masks = c.mask_all.ensures;
      wanted_within = c.in-Some.ensures.within;
      places = λ p l z. get_or-cells_of n words (get_or full.tags p 0) false (s.offered.kept.chosen p l).in_range ∙ ap (λ b. nat_eq b 1) (c.charged_places-mask.ensures p l z);
      basis = basis;
      set_within = c.in-Some-find_solution.ensures.within;
      set_sum = c.in-Some-find_solution.ensures.sum ∙ ap (λ x. bit_and (bit_xor wanted x) mask) sum;
      charged = first (free_set_of masked old work set basis c.in-Some-find_solution.ensures.within);
    } in
    let left : IsFreeSet columns mid full (bit_xor wanted (syndrome coords mid)) = left_free columns coords masked mask full work old mid wanted set half in
    let second : IsFreeSet columns mid full (bit_xor wanted (syndrome coords mid)) → IsChargedSet columns mid (cells_of n after) full (bit_xor wanted (syndrome coords mid)) 0 =
    subst (λ x. IsFreeSet columns mid full (bit_xor wanted x) → IsChargedSet columns mid (cells_of n after) full (bit_xor wanted x) 0) sum_mid
    (c.charge_set-in-Some-find_solution.ensures.charged columns) in
    let done : IsThere columns old (cells_of n after) c.number_of.result =
    there columns coords masked mask full work old mid (cells_of n after) wanted set c.number_of.result half (second left) c.in-Some.ensures.found in
    let row : IsRow n after = record {
      count = omega (arith, c.requires.old.count, ap length copied, c.charge_set.auto.row, c.charge_set-in-Some-find_solution.auto.row);
      padding = λ i h.
          c.charge_set-in-Some-find_solution.ensures.others n (λ p l. (s.offered.kept.chosen p l).in_range) i h
          ∙ c.charge_set.ensures.others n (λ p l. omega (arith, len, (basis.chosen p l).in_range)) i h
          ∙ ap (λ ws. word_bit ws i) copied
          ∙ c.requires.old.padding i h;
    } in
    (row, carried c.args.bits columns old (cells_of n after) c.number_of.result c.args.message.now c.number_of.ensures done, done.solution)
