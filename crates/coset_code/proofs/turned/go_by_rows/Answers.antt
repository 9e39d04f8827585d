-- What was found is tested, and what is left is charged.
use Rattle.std.proofs.Common.{rules, ◌≡◌, ℕ, ◌^◌, ◌<◌, ◌≤◌, List, length, get_or, bit_xor, bit_and, sym, ◌∙◌, ap, subst, arith}
use Rattle.std.specs.Int.Bits.{xor_lt}
use Rattle.gf2_solve.specs.Family.{Family}
use Rattle.gf2_solve.specs.Span.{subset_sum}
use Rattle.wom_code.specs.Packed.{IsRow, cells_of, word_bit}
use Rattle.coset_code.specs.Sums.{syndrome}
use Rattle.coset_code.specs.Rows.{HasGoneOver, IsTurned}
use Rattle.coset_code.specs.Coordinates.{IsFreeSet, IsChargedSet}
use Rattle.coset_code.proofs.MidwayLemmas.{IsByRows, all_written, gone_by}
use Rattle.coset_code.proofs.turned.go_by_rows.Goals as goal

pub charge_set-requires-clause-set : goal.charge_set-requires-clause-set
charge_set-requires-clause-set c =
    let small : bit_xor c.args.wanted c.syndrome_of.result < 2 ^ 128 = xor_lt 128 c.args.wanted c.syndrome_of.result (omega arith) (omega (arith, c.syndrome_of.type_inv)) in
    subst (λ k. bit_xor c.args.wanted c.syndrome_of.result < 2 ^ k) (sym (c.requires.made.turned c.requires.ready).rank) small

pub returns-clause-gone : goal.returns-clause-gone
returns-clause-gone c = λ yes columns s.
    let t = c.requires.made.turned c.requires.ready in
    let coords : List ℕ = c.args.coords.now in
    let full : Family = c.args.full.now in
    let n : ℕ = length columns in
    let trial : List ℕ = c.lay.new.row in
    let after : List ℕ = c.charge_set.new.row in
    let wanted : ℕ = c.args.wanted in
    let read : c.deref-2.result.now ≡ trial = c.deref-2.ensures.value ∙ all_written _ trial _ (search rules) in
    let held : c.deref_mut-3.result.now ≡ trial = search rules in
    let wrote : c.deref-3.result.now ≡ after = c.deref-3.ensures.value ∙ all_written _ after _ (search rules) in
    let sum : c.syndrome_of.result ≡ syndrome coords (cells_of n trial) =
    c.syndrome_of.ensures ∙ ap (λ ws. syndrome coords (cells_of (length coords) ws)) read ∙ ap (λ k. syndrome coords (cells_of k trial)) s.coords_len in
    let charged : IsFreeSet columns (cells_of n trial) full (bit_xor wanted c.syndrome_of.result)
    → IsChargedSet columns (cells_of n trial) (cells_of n after) full (bit_xor wanted c.syndrome_of.result) 0 =
    subst (λ ws. IsFreeSet columns (cells_of n ws) full (bit_xor wanted c.syndrome_of.result)
    → IsChargedSet columns (cells_of n ws) (cells_of n after) full (bit_xor wanted c.syndrome_of.result) 0) held (c.charge_set.ensures.charged columns) in
    let charge : IsFreeSet columns (cells_of n trial) full (bit_xor wanted (syndrome coords (cells_of n trial)))
    → IsChargedSet columns (cells_of n trial) (cells_of n after) full (bit_xor wanted (syndrome coords (cells_of n trial))) 0 =
    subst (λ x. IsFreeSet columns (cells_of n trial) full (bit_xor wanted x) → IsChargedSet columns (cells_of n trial) (cells_of n after) full (bit_xor wanted x) 0) sum charged in
    let others : (m : ℕ) → ((p : ℕ) → p < length full.columns → get_or full.tags p 0 < m) → (i : ℕ) → m ≤ i → word_bit after i ≡ word_bit trial i =
    λ m h i l. c.charge_set.ensures.others m h i l ∙ ap (λ ws. word_bit ws i) held in
    let settled : bit_and (bit_xor wanted c.syndrome_of.result) c.low_cells-low.result ≡ 0 = omega arith in
    let r : IsByRows columns coords full _ c.args.old.now trial _ _ _ wanted c.low_cells-low.result = record {
      system = s;
      turned = t;
      row = subst (λ k. IsRow k c.args.old.now) s.coords_len c.requires.old;
      old_len = omega arith;
      trial_len = search rules;
      separate = c.find_words-words.ensures columns coords full s (subst (IsTurned coords full) (sym c.deref.ensures.value) t);
      laid = c.lay.ensures;
      within = subst (λ k. wanted < 2 ^ k) (sym t.rank) (omega arith);
      low_bits = c.low_cells-low.ensures;
      settled = subst (λ x. bit_and (bit_xor wanted x) c.low_cells-low.result ≡ 0) sum settled;
    } in
    subst (λ ws. HasGoneOver columns c.args.old.now ws (subset_sum wanted full.columns)) (sym (c.copy_from_slice.ensures.after ∙ wrote))
    (gone_by columns coords full _ c.args.old.now trial after _ _ _ wanted c.low_cells-low.result r charge others (search rules))
