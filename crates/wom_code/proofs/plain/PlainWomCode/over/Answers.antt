-- The message over the first cells, where it is above them, is above all old cells.
use Rattle.std.proofs.Common.{◌≡◌, List, Bool, ◌++◌, drop, sym, ◌∙◌, ap, subst, take}
use Rattle.wom_code.specs.Cells.{IsAbove, Carries}
use Rattle.std.proofs.lemmas.Bool.{true≢false}
use Rattle.wom_code.specs.Turned.{turned_false}
use Rattle.wom_code.proofs.PlainLemmas.{front_carries, front_none}
use Rattle.wom_code.proofs.TestLemmas.{is_same_from}
use Rattle.wom_code.proofs.plain.PlainWomCode.over.Goals as goal

written : (k : _) (old message a b : List Bool) → a ≡ old → b ≡ message → b ++ drop k a ≡ message ++ drop k old
written k old message a b e f = ap (λ xs. b ++ drop k xs) e ∙ ap (λ xs. xs ++ drop k old) f

pub returns-then-not-fits-clause-declined : goal.returns-then-not-fits-clause-declined
returns-then-not-fits-clause-declined g c = λ answer.
    front_none g.row.K g.row.N c.args.old.now c.args.msg.now
    (λ above. true≢false (sym (c.fits.ensures.1 (subst (λ m. IsAbove m (take g.row.K c.args.old.now)) (sym (turned_false c.args.msg.now)) above)) ∙ c.if-not-fits.true))

pub returns-clause-carried : goal.returns-clause-carried
returns-clause-carried g c = λ answer.
    subst (Carries (take g.row.K) c.args.old.now c.args.msg.now)
    (sym (written g.row.K c.args.old.now c.args.msg.now _ _ c.copy_from_slice.ensures.after c.copy_from_slice-2.ensures.after))
    (front_carries g.row.K c.args.old.now c.args.msg.now c.requires.message
    (subst (λ m. IsAbove m (take g.row.K c.args.old.now)) (turned_false c.args.msg.now) (c.fits.ensures.0 c.if-not-fits.false)))

pub returns-clause-given : goal.returns-clause-given
returns-clause-given g c = λ answer.
    is_same_from _ _ (written g.row.K c.args.old.now c.args.msg.now _ _ c.copy_from_slice.ensures.after c.copy_from_slice-2.ensures.after)
