-- What the lines of a pace leave is what the drawn ones leave.
use Rattle.std.proofs.Common.{◌≡◌, ◌<◌, ◌^◌, ap, sym, ◌∙◌, subst}
use Rattle.lab_lines.specs.declared.drawn.Drawn.{Drawn}
use Rattle.lab_lines.specs.Drawing.{plan_of, state_of, left_of}
use Rattle.rssd_run.specs.Statuses.{output}
use Rattle.rssd_lab.specs.Pacing.{inner_of}
use Rattle.rssd_lab.specs.Stages.{StartOn, EndOn}
use Rattle.rssd_lab.specs.Ends.{PlaysDrawn, HaltsDrawn}
use Rattle.rssd_lab.proofs.Ends.{all_drawn, drawn_halts, where_ok, where_err}
use Rattle.rssd_lab.proofs.top.play_drawn.Goals as goal

pub returns-clause-all : goal.returns-clause-all
returns-clause-all g c =
    let out = g.O.Sink.log c.args.out.now in
    let out_after = g.O.Sink.log c.play_lines.new.out in
    let start = StartOn c.args.stage in
    let same : inner_of c.new-lines.result ≡ c.args.drawn = c.new-lines.ensures in
    where_ok c.play_lines.result (λ left run seed is few.
    let few_left : left_of (inner_of c.new-lines.result) < 2 ^ 64 = subst (λ (drawn : Drawn). left_of drawn < 2 ^ 64) (sym same) few in
    subst (λ (drawn : Drawn). PlaysDrawn c.args.telling start (EndOn c.args.stage left) (plan_of drawn) seed (left_of drawn) (output out out_after)) same
    (all_drawn c.args.telling start c.new-lines.result c.play_lines.new.lines seed (ap state_of same ∙ is) few_left out (EndOn c.args.stage left) out_after run)) c.play_lines.ensures.all

pub returns-clause-halts : goal.returns-clause-halts
returns-clause-halts g c =
    let out = g.O.Sink.log c.args.out.now in
    let out_after = g.O.Sink.log c.play_lines.new.out in
    let same : inner_of c.new-lines.result ≡ c.args.drawn = c.new-lines.ensures in
    where_err c.play_lines.result (λ halt stop seed is few.
    let few_left : left_of (inner_of c.new-lines.result) < 2 ^ 64 = subst (λ (drawn : Drawn). left_of drawn < 2 ^ 64) (sym same) few in
    subst (λ (drawn : Drawn). HaltsDrawn c.args.telling c.args.stage (plan_of drawn) seed (left_of drawn) (output out out_after) halt) same
    (drawn_halts c.args.telling c.args.stage c.new-lines.result c.play_lines.new.lines seed (ap state_of same ∙ is) few_left out out_after halt stop)) c.play_lines.ensures.halts
