-- A page more is told, or it is wrong.
use Rattle.std.proofs.Common.{List, ℕ, subst}
use Rattle.std.proofs.lemmas.Result.{on_ok_weaker}
use Rattle.spare_die.specs.Opening.{NotesPage, IsWrongEntry}
use Rattle.spare_die.proofs.Telling.{told_more, wrong_entry, wrong_cause}
use Rattle.spare_die.proofs.opening.read_entry.Goals as goal

pub returns-in-Ok-clause-told : goal.returns-in-Ok-clause-told
returns-in-Ok-clause-told g c =
    on_ok_weaker c.note.result
    (λ notes. told_more c.requires.told c.requires.inside
    (subst (λ (row : List ℕ). NotesPage c.args.logical c.args.page row c.args.opening.now c.note.new.self) c.in-Ok.ensures.read notes)) c.note.ensures.noted

pub returns-in-Ok-clause-cause : goal.returns-in-Ok-clause-cause
returns-in-Ok-clause-cause g c =
    wrong_cause (g.D.WornDie.state c.args.die.now) (g.D.WornDie.state c.read.new.self) c.args.logical c.note.result c.note.ensures.wrong c.note.ensures.table c.requires.fits
    (λ wrong. wrong_entry c.requires.told c.requires.inside (subst (λ (row : List ℕ). IsWrongEntry c.args.logical c.args.page row c.args.opening.now) c.in-Ok.ensures.read wrong))
