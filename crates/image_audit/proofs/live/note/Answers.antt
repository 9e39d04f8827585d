-- What is known of live records grows by the mark.
use Rattle.std.proofs.Common.{sym, ◌∙◌}
use Rattle.image_audit.proofs.LiveLemmas.{knows_uncounted, knows_loser, knows_winner}
use Rattle.image_audit.proofs.live.note.Goals as goal
use Rattle.image_audit.proofs.live.note.Goals.{else-mark-via-then-mark+else-takes_over, else-mark-via-else-mark}

pub returns-in_ok-insert : goal.returns-in_ok-insert
returns-in_ok-insert c = λ marks knows.
    knows_winner marks c.args.mark.now c.args.live.now c.insert.new.self c.if-mark.true
    (sym c.takes_over.ensures ∙ c.if-takes_over.true) c.in_ok-insert.ensures.entries c.in_ok-insert.ensures.updates c.in_ok-insert.ensures.unique knows

pub returns-else-mark : goal.returns-else-mark
returns-else-mark c = λ marks knows. elim c.else-mark.branch [
  | else-mark-via-then-mark+else-takes_over w ↦ knows_loser marks c.args.mark.now c.args.live.now w.if-mark.true (sym w.takes_over.ensures ∙ w.if-takes_over.false) knows
  | else-mark-via-else-mark w ↦ knows_uncounted marks c.args.mark.now c.args.live.now w.if-mark.false knows
]
