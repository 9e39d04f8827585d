-- The head was handed on first, then all lines were played and told, and the tables come behind.
use Rattle.std.proofs.Common.{inl, inr, [], ◌∷◌, ◌++◌, ◌≡◌, refl, sym, ◌∙◌}
use Rattle.rssd_run.proofs.CallStops.{stopped}
use Rattle.rssd_lab.specs.Runs.{At, handed, run_head, state_at}
use Rattle.rssd_lab.proofs.Told.{at_err, at_ok}
use Rattle.rssd_lab.proofs.Stopped.{stops_run, plays_behind}
use Rattle.rssd_lab.proofs.laboratory.run.Goals as goal

pub returns-in-Ok-tell_at_end-clause-done : goal.returns-in-Ok-tell_at_end-clause-done
returns-in-Ok-tell_at_end-clause-done g c =
    let log = g.O.Sink.log in
    let device = g.F.Device.device in
    let score = c.first_score-score.result in
    let head : log c.give_last.new.sink ≡ log c.args.out.now ++ handed (run_head ∷ []) = at_ok c.give_last.result _ (sym c.is_err.ensures.value ∙ c.if-is_err.false) c.give_last.ensures.done in
    let last : At g.row.L.Denot = state_at c.play_all.new.lines (device c.play_all.new.ftl) c.play_all.new.score (log c.play_all.new.out) in (
      record {
        score = score;
        first = c.first_score-score.ensures;
        last = last;
        plays = plays_behind g.L.Lines.gives g.L.Lines.ended g.L.Lines.stops c.args.telling (device c.args.ftl.now) (log c.args.out.now) _ head c.in-Ok.ensures.done;
        lines_last = refl;
        tells = c.in-Ok-tell_at_end.ensures.done;
      },
      refl,
    )

pub returns-then-is_err-clause-stops : goal.returns-then-is_err-clause-stops
returns-then-is_err-clause-stops g c =
    let log = g.O.Sink.log in
    inl (refl, stopped (run_head ∷ []) (log c.args.out.now) (log c.give_last.new.sink) (at_err c.give_last.result _ (sym c.is_err.ensures.value ∙ c.if-is_err.true) c.give_last.ensures.front))

pub returns-in-Err-tell_at_end-clause-stops : goal.returns-in-Err-tell_at_end-clause-stops
returns-in-Err-tell_at_end-clause-stops g c =
    let log = g.O.Sink.log in
    let device = g.F.Device.device in
    let score = c.first_score-score.result in
    let head : log c.give_last.new.sink ≡ log c.args.out.now ++ handed (run_head ∷ []) = at_ok c.give_last.result _ (sym c.is_err.ensures.value ∙ c.if-is_err.false) c.give_last.ensures.done in
    let last : At g.row.L.Denot = state_at c.play_all.new.lines (device c.play_all.new.ftl) c.play_all.new.score (log c.play_all.new.out) in
    inr (inr (record {
      score = score;
      first = c.first_score-score.ensures;
      last = last;
      plays = plays_behind g.L.Lines.gives g.L.Lines.ended g.L.Lines.stops c.args.telling (device c.args.ftl.now) (log c.args.out.now) _ head c.in-Ok.ensures.done;
      lines_last = refl;
      failed = c.in-Err-tell_at_end.ensures.fault;
    }))

pub returns-in-Err-clause-stops : goal.returns-in-Err-clause-stops
returns-in-Err-clause-stops g c =
    let log = g.O.Sink.log in
    let device = g.F.Device.device in
    let head : log c.give_last.new.sink ≡ log c.args.out.now ++ handed (run_head ∷ []) = at_ok c.give_last.result _ (sym c.is_err.ensures.value ∙ c.if-is_err.false) c.give_last.ensures.done in
    stops_run g.L.Lines.gives g.L.Lines.ended g.L.Lines.stops c.args.telling (device c.args.ftl.now)
    c.first_score-score.result c.first_score-score.ensures c.args.lines.now (log c.args.out.now) (log c.give_last.new.sink) head c.in-Err.why
    (state_at c.play_all.new.lines (device c.play_all.new.ftl) c.play_all.new.score (log c.play_all.new.out)) c.in-Err.ensures.stops
