-- The stream begins with nothing taken of the input, and gives it back as it is then.
use Rattle.std.proofs.Common.{ap, ◌∙◌}
use Rattle.std.specs.Prelude.{IfOk, IfErr}
use Rattle.lab_stream.specs.Streaming.{ahead_of, lines_of}
use Rattle.rssd_run.specs.Statuses.{input, output}
use Rattle.rssd_lab.specs.Stages.{StartOn, EndOn}
use Rattle.rssd_lab.specs.Ends.{PlaysInput, HaltsInput}
use Rattle.rssd_lab.proofs.Ends.{all_played, input_halts, of_input, where_ok, where_err}
use Rattle.rssd_lab.proofs.top.play_input.Goals as goal

pub returns-in-Ok-clause-all : goal.returns-in-Ok-clause-all
returns-in-Ok-clause-all g c =
    let log = g.I.Source.log in
    let out = g.O.Sink.log c.args.out.now in
    let out_after = g.O.Sink.log c.play_lines-played.new.out in
    let played = c.play_lines-played.result in
    let telling = c.args.telling in
    let stage = c.args.stage in
    of_input (λ (from to : g.row.I.Denot). IfOk played (λ left. PlaysInput telling (StartOn stage) (EndOn stage left) (input (log from) (log to)) (output out out_after)))
    c.new-lines.result c.play_lines-played.new.lines c.new-lines.ensures c.in-Ok.ensures.source c.into_source.ensures c.into_inner.ensures
    (where_ok played (λ left run. all_played log telling (StartOn stage) c.new-lines.result c.play_lines-played.new.lines
    (ap ahead_of c.new-lines.ensures ∙ c.in-Ok.ensures.ahead) (ap lines_of c.new-lines.ensures ∙ c.in-Ok.ensures.lines) out (EndOn stage left) out_after run) c.play_lines-played.ensures.all)

pub returns-in-Ok-clause-halts : goal.returns-in-Ok-clause-halts
returns-in-Ok-clause-halts g c =
    let log = g.I.Source.log in
    let out = g.O.Sink.log c.args.out.now in
    let out_after = g.O.Sink.log c.play_lines-played.new.out in
    let played = c.play_lines-played.result in
    of_input (λ (from to : g.row.I.Denot). IfErr played (λ halt. HaltsInput c.args.telling c.args.stage (input (log from) (log to)) (output out out_after) halt))
    c.new-lines.result c.play_lines-played.new.lines c.new-lines.ensures c.in-Ok.ensures.source c.into_source.ensures c.into_inner.ensures
    (where_err played (λ halt stop. input_halts log c.args.telling c.args.stage c.new-lines.result c.play_lines-played.new.lines
    (ap ahead_of c.new-lines.ensures ∙ c.in-Ok.ensures.ahead) (ap lines_of c.new-lines.ensures ∙ c.in-Ok.ensures.lines) out out_after halt stop) c.play_lines-played.ensures.halts)
