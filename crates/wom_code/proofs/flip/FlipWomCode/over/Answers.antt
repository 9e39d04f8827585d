-- The tests say which of the two results is possible, and the choice takes the one of less charge.
use Rattle.std.proofs.Common.{◌≡◌, ℕ, ◌<◌, Bool, List, ◌++◌, drop, set, length, sym, ◌∙◌, ap, subst, arith}
use Rattle.wom_code.specs.Cells.{cell_at, Carries}
use Rattle.wom_code.specs.Turned.{turned_by}
use Rattle.wom_code.specs.Flip.{flip_message, flip_cells, IsChoice, is_fewest}
use Rattle.wom_code.proofs.FlipLemmas.{flip_none, flip_written, choice_carries, choice_fewest, is_fewest_from}
use Rattle.wom_code.proofs.flip.FlipWomCode.over.Goals as goal

written : (k n : ℕ) (old message copied front : List Bool) (f : Bool) → k < n → length old ≡ n → length message ≡ k → copied ≡ old → front ≡ turned_by f message →
    set (front ++ drop k copied) k f ≡ flip_cells k old message f
written k n old message copied front f fits o m same turned =
    ap (λ xs. set (xs ++ drop k copied) k f) turned ∙ ap (λ xs. set (turned_by f message ++ drop k xs) k f) same ∙ flip_written k old message f m (omega arith)

pub returns-in_default-clause-declined : goal.returns-in_default-clause-declined
returns-in_default-clause-declined g c = λ answer.
    flip_none g.row.K g.row.N c.args.old.now c.args.msg.now (cell_at c.args.old.now g.row.K) c.fits-straight.result c.fits-turned.result
    (record {
      len = c.requires.message;
      flag = λ i. cell_at c.args.old.now g.row.K;
      straight_to = c.fits-straight.ensures.0;
      straight_from = c.fits-straight.ensures.1;
      turned_to = c.fits-turned.ensures.0;
      turned_from = c.fits-turned.ensures.1;
    }) c.in_default.ensures.none.0 c.in_default.ensures.none.1

pub returns-clause-carried : goal.returns-clause-carried
returns-clause-carried g c = λ answer.
    subst (Carries (flip_message g.row.K) c.args.old.now c.args.msg.now)
    (sym (written g.row.K g.row.N c.args.old.now c.args.msg.now _ _ c.in-Some.flag c.args.self.now.fits c.requires.old c.requires.message c.copy_from_slice.ensures.after c.write_turned.ensures))
    (choice_carries g.row.K c.args.old.now c.args.msg.now (cell_at c.args.old.now g.row.K) c.fits-straight.result c.fits-turned.result c.count_charged.result c.in-Some.flag
    (record {
      len = c.requires.message;
      flag = λ i. cell_at c.args.old.now g.row.K;
      straight_to = c.fits-straight.ensures.0;
      straight_from = c.fits-straight.ensures.1;
      turned_to = c.fits-turned.ensures.0;
      turned_from = c.fits-turned.ensures.1;
    }) c.in-Some.ensures.some)

pub returns-clause-given : goal.returns-clause-given
returns-clause-given g c = λ answer.
    ap (is_fewest g.row.K c.args.old.now c.args.msg.now)
    (written g.row.K g.row.N c.args.old.now c.args.msg.now _ _ c.in-Some.flag c.args.self.now.fits c.requires.old c.requires.message c.copy_from_slice.ensures.after c.write_turned.ensures)
    ∙ is_fewest_from g.row.K c.args.old.now c.args.msg.now _
    (choice_fewest g.row.K c.args.old.now c.args.msg.now (cell_at c.args.old.now g.row.K) c.fits-straight.result c.fits-turned.result c.in-Some.flag
    (record {
      len = c.requires.message;
      flag = λ i. cell_at c.args.old.now g.row.K;
      straight_to = c.fits-straight.ensures.0;
      straight_from = c.fits-straight.ensures.1;
      turned_to = c.fits-turned.ensures.0;
      turned_from = c.fits-turned.ensures.1;
    })
    (subst (λ ones. IsChoice (cell_at c.args.old.now g.row.K) c.fits-straight.result c.fits-turned.result ones g.row.K c.in-Some.flag) c.count_charged.ensures c.in-Some.ensures.some))
