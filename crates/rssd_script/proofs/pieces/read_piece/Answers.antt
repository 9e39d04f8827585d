-- Each line feed ends a line, which is added or is the first bad one.
use Rattle.std.proofs.Common.{◌++◌, ◌∷◌, [], sym, ◌∙◌, arith}
use Rattle.std.proofs.lemmas.List.{length-append}
use Rattle.rssd_script.proofs.Steps.{over, at_ok, err_not_ok, broken_at, same_text, whole_at, cut_length, end_piece}
use Rattle.rssd_script.proofs.pieces.read_piece.Goals as goal

pub returns-then-not-branch-clause-ok : goal.returns-then-not-branch-clause-ok
returns-then-not-branch-clause-ok c text w =
    let i = c.loop-front.invariant.ok text w in
    let f = c.in-Some.ensures.found in
    let e = rw c.if-not-branch.true at c.in_ok-end_line.ensures.ok in
    broken_at text i.0 c.loop-front.left.now c.args.piece.now _ _ i.1 i.2 _ c.in-Some.front.now c.in-Some.back.now f.0 f.1 e.0 e.1

pub loop-front-preserved : goal.loop-front-preserved
loop-front-preserved c =
    let f = c.in-Some.ensures.found in
    let e = rw c.if-not-branch.false at c.in_ok-end_line.ensures.ok in
    record {
      ok = λ text w.
          let i = c.loop-front.invariant.ok text w in (
            i.0 ++ (c.in-Some.front.now ++ 10 ∷ []),
            whole_at text i.0 c.loop-front.left.now c.args.piece.now _ _ i.1 i.2 _ c.in-Some.front.now c.in-Some.back.now f.0 _ e.0 e.1,
            same_text text i.0 c.loop-front.left.now c.args.piece.now _ _ i.1 i.2 c.end_line.new.lines.items c.in-Some.front.now c.in-Some.back.now f.0,
          );
      count = omega (arith, cut_length c.loop-front.left.now c.in-Some.front.now c.in-Some.back.now f.0, c.in_ok-end_line.ensures.count, c.loop-front.invariant.count);
    }

pub returns-clause-ok : goal.returns-clause-ok
returns-clause-ok c text w =
    let i = c.loop-front.invariant.ok text w in
    let none = c.in_default.ensures.none in
    let r = c.try_extend_from_slice.result in
    end_piece text i.0 c.loop-front.left.now c.args.piece.now _ _ i.1 i.2 c.is_ok.result _ none
    (λ t. at_ok r _ (sym c.is_ok.ensures.value ∙ t) c.try_extend_from_slice.ensures.ok)
    (λ t. rw length-append (over r _ c.try_extend_from_slice.ensures.variant.1 (err_not_ok r (sym c.is_ok.ensures.value ∙ t))))
