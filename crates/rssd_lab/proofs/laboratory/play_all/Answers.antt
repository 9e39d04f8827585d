-- A line more is a step more, and what is told of it comes behind the rest.
use Rattle.std.proofs.Common.{ℕ, ◌+◌, [], ◌∷◌, ◌++◌, refl, ap, sym, ◌∙◌, subst, append-nil, length-append}
use Rattle.rssd_io.proofs.Logs.{came_behind}
use Rattle.rssd_core.specs.DeviceValue.{Numbers}
use Rattle.rssd_run.specs.Played.{Plays}
use Rattle.rssd_lab.specs.Runs.{Answered, PlaysLine, handed, told_for, state_at}
use Rattle.rssd_lab.proofs.Chains.{chain_none, chain_more}
use Rattle.rssd_lab.proofs.Told.{at_err, at_ok}
use Rattle.rssd_lab.proofs.laboratory.play_all.Goals as goal

pub loop-init : goal.loop-init
loop-init g c = record {
  numbers = refl;
  grew = ([], sym (append-nil (g.O.Sink.log c.args.out.now)));
  plays = (
    [],
    refl,
    chain_none (PlaysLine g.L.Lines.gives (g.F.Device.device c.args.ftl.now).numbers c.args.telling)
        (state_at c.args.lines.now (g.F.Device.device c.args.ftl.now) c.args.score.now (g.O.Sink.log c.args.out.now)),
  );
}

pub returns-then-is_err-clause-stops : goal.returns-then-is_err-clause-stops
returns-then-is_err-clause-stops g c =
    let log = g.O.Sink.log in
    let device = g.F.Device.device in
    let so = c.loop.invariant in
    record {
      answered = so.plays.0;
      last = state_at c.loop.lines (device c.loop.ftl) c.loop.score (log c.loop.out);
      plays = so.plays.2;
      line = c.in-Ok-Some.line;
      reply = c.in-Some.reply;
      given = rw c.in-Ok-Some.field-0-is at c.in-Ok-Some.ensures;
      played = subst (λ (d : Numbers). Plays d c.in-Ok-Some.line c.in-Some.reply (device c.loop.ftl) (device c.step.new.ftl)) so.numbers c.in-Some.ensures.plays;
      failed = at_err c.tell.result _ (sym c.is_err.ensures.value ∙ c.if-is_err.true) c.tell.ensures.fault;
    }

pub loop-preserved : goal.loop-preserved
loop-preserved g c =
    let log = g.O.Sink.log in
    let device = g.F.Device.device in
    let so = c.loop.invariant in
    let line = c.in-Ok-Some.line in
    let reply = c.in-Some.reply in
    let told = at_ok c.tell.result _ (sym c.is_err.ensures.value ∙ c.if-is_err.false) c.tell.ensures.done in
    let answered : Answered = record { line = line; reply = reply } in
    let pieces = told_for c.args.telling (device c.step.new.ftl) c.step.new.score reply in
    let one : PlaysLine g.L.Lines.gives (device c.args.ftl.now).numbers c.args.telling (state_at c.loop.lines (device c.loop.ftl) c.loop.score (log c.loop.out)) answered
    (state_at c.next_line.new.self (device c.step.new.ftl) c.step.new.score (log c.tell.new.out)) = record {
      given = rw c.in-Ok-Some.field-0-is at c.in-Ok-Some.ensures;
      plays = subst (λ (d : Numbers). Plays d line reply (device c.loop.ftl) (device c.step.new.ftl)) so.numbers c.in-Some.ensures.plays;
      counted = c.in-Some.ensures.counted;
      answers = c.in-Some.ensures.answers;
      told = told;
    } in
    record {
      numbers = c.step.ensures.numbers ∙ so.numbers;
      grew = (so.grew.0 ++ handed pieces, came_behind (log c.args.out.now) (log c.loop.out) (log c.tell.new.out) so.grew.0 (handed pieces) so.grew.1 told);
      plays = (
        so.plays.0 ++ answered ∷ [],
        length-append so.plays.0 (answered ∷ []) ∙ ap (λ (n : ℕ). n + 1) so.plays.1,
        chain_more (PlaysLine g.L.Lines.gives (device c.args.ftl.now).numbers c.args.telling)
            (state_at c.args.lines.now (device c.args.ftl.now) c.args.score.now (log c.args.out.now)) (state_at c.loop.lines (device c.loop.ftl) c.loop.score (log c.loop.out))
            (state_at c.next_line.new.self (device c.step.new.ftl) c.step.new.score (log c.tell.new.out)) so.plays.0 answered so.plays.2 one,
      );
    }
