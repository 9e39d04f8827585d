-- Rows and sets of zeros are as in a new basis; the old vectors are out of use.
use Rattle.std.proofs.Common.{rules, ◌≡◌, vec_len, replicate, ◌∙◌, ap, arith}
use Rattle.gf2_solve.proofs.BasisLemmas.{empty_basis}
use Rattle.gf2_solve.proofs.Basis.clear.Goals as goal

pub invariant_of-self : goal.invariant_of-self
invariant_of-self c =
    let rows_len : vec_len c.self.inside.rows ≡ 128 = search rules in
    let sets_len : vec_len c.self.inside.sets ≡ 128 = search rules in
    let rows : c.fill.new.self.items ≡ replicate 128 0 = c.fill.ensures.items (λ y e. e) ∙ ap (λ n. replicate n 0) rows_len in
    let sets : c.fill-2.new.self.items ≡ replicate 128 0 = c.fill-2.ensures.items (λ y e. e) ∙ ap (λ n. replicate n 0) sets_len in
    record {
      rows_len = search rules;
      sets_len = search rules;
      columns_len = c.self.invariant.columns_len;
      tags_len = c.self.invariant.tags_len;
      basis = empty_basis _ _ rows sets;
      in_room = omega arith;
    }
