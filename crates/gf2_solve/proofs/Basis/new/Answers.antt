-- Rows of zeros clear nothing, and there is no vector to be cleared.
use Rattle.std.proofs.Common.{rules, arith}
use Rattle.gf2_solve.proofs.BasisLemmas.{empty_basis}
use Rattle.gf2_solve.proofs.Basis.new.Goals as goal

pub invariant_of-result : goal.invariant_of-result
invariant_of-result c = record {
  rows_len = search rules;
  sets_len = search rules;
  columns_len = search rules;
  tags_len = search rules;
  basis = empty_basis _ _ (c.in_ok-vec.ensures.items_if_clones_equal (λ y e. e)) (c.in_ok-vec-2.ensures.items_if_clones_equal (λ y e. e));
  in_room = omega arith;
}
