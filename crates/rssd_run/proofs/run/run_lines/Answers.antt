-- A line more is a step more, and its text is given after the others.
use Rattle.std.proofs.Common.{◌≡◌, ℕ, ◌+◌, ◌++◌, ◌∷◌, [], All, length, take, ◌∙◌, sym, ap, subst, arith, false, Result, Ok, Err, OnErr, length-take, List}
use Rattle.std.proofs.lemmas.List.{take_all, take_more}
use Rattle.std.proofs.lemmas.List.Elements.{All-get_or}
use Rattle.rssd_io.specs.Event.{moved, failed}
use Rattle.rssd_io.proofs.Logs.{gave_failed}
use Rattle.rssd_io.proofs.Told.{held_same, held_more}
use Rattle.rssd_script.specs.declared.lines.Line.{Line}
use Rattle.rssd_script.specs.Replies.{reply_line}
use Rattle.rssd_run.specs.Exchanges.{AnswersAll}
use Rattle.rssd_run.specs.Run.{is_cut}
use Rattle.rssd_run.proofs.Exchanges.{answers_none, answers_more, answers_cut_off}
use Rattle.rssd_run.proofs.Parts.{keeps_none, keeps_more}
use Rattle.rssd_run.proofs.Runs.{run_of_none, run_of_more, run_cut_off, calm_now, calm_on}
use Rattle.rssd_run.proofs.run.run_lines.Goals as goal

pub loop-line-init : goal.loop-line-init
loop-line-init g c = record {
  numbers = λ d numbers. numbers;
  runs = λ d numbers before shows calm. (before, shows, calm, run_of_none d before (g.O.Sink.log c.args.out.now));
  answered = λ d numbers. answers_none d _ (g.O.Sink.log c.args.out.now);
  held = held_same (g.O.Sink.written c.args.out.now) (g.O.Sink.log c.args.out.now);
  keeps = λ d numbers die has. (die, has, keeps_none d die);
}

pub loop-line-preserved : goal.loop-line-preserved
loop-line-preserved g c =
    let log = g.O.Sink.log in
    let lines = c.args.lines.now in
    let i = c.loop-line.line-index in
    let line = c.line-item.result in
    let reply = c.step.new.reply in
    let more : take (i + 1) lines ≡ take i lines ++ line ∷ [] = take_more lines i line (omega arith) ∙ ap (λ item. take i lines ++ item ∷ []) (sym c.line-item.is) in
    let among : All (λ l. is_cut l ≡ false) lines → is_cut line ≡ false = λ all. ap is_cut c.line-item.is ∙ All-get_or (λ l. is_cut l ≡ false) lines i line (omega arith) all in
    let text : c.as_slice.result.now ≡ reply_line reply = c.as_slice.ensures ∙ c.set.ensures in
    let given = subst (λ (xs : List ℕ). log c.give.new.self ≡ log c.loop-line.out ++ moved xs ∷ []) text c.in_ok-give.ensures.log in
    record {
      numbers = λ d numbers. c.step.ensures.numbers d (c.loop-line.invariant.numbers d numbers);
      runs = λ d numbers before shows calm.
          let so = c.loop-line.invariant.runs d numbers before shows calm in
          let s = (c.step.ensures.step d (c.loop-line.invariant.numbers d numbers)).step so.0 so.1 (calm_now d so.0.device.die lines so.2) in (
            s.0,
            s.1,
            calm_on d so.0 s.0 line reply lines s.2 among so.2,
            rw more (run_of_more d before so.0 s.0 (take i lines) line reply (log c.args.out.now) (log c.loop-line.out) (log c.give.new.self) so.3 s.2 given),
          );
      answered = λ d numbers.
          rw more (answers_more d _ _ _ (take i lines) line reply (log c.args.out.now) (log c.loop-line.out) (log c.give.new.self) (c.loop-line.invariant.answered d numbers)
          (c.step.ensures.answers d (c.loop-line.invariant.numbers d numbers)) given);
      held = held_more c.loop-line.invariant.held c.in_ok-give.ensures.held;
      keeps = λ d numbers die has.
          let one = c.loop-line.invariant.keeps d numbers die has in
          let two = (c.step.ensures.step d (c.loop-line.invariant.numbers d numbers)).keeps one.0 one.1 in
          (two.0, two.1, keeps_more d die one.0 two.0 one.2 two.2);
    }

pub returns-in_err-give-clause-numbers : goal.returns-in_err-give-clause-numbers
returns-in_err-give-clause-numbers g c = λ d numbers. c.step.ensures.numbers d (c.loop-line.invariant.numbers d numbers)

on_err : {T E : Type 0} (r : Result T E) (P : Type 0) → P → OnErr r P
on_err (Ok x) P holds = tt
on_err (Err e) P holds = holds

pub returns-in_err-give-clause-err : goal.returns-in_err-give-clause-err
returns-in_err-give-clause-err g c =
    let log = g.O.Sink.log in
    let lines = c.args.lines.now in
    let i = c.loop-line.line-index in
    let line = c.line-item.result in
    let reply = c.step.new.reply in
    let more : take (i + 1) lines ≡ take i lines ++ line ∷ [] = take_more lines i line (omega arith) ∙ ap (λ item. take i lines ++ item ∷ []) (sym c.line-item.is) in
    let count : i ≡ length (take i lines) = omega (arith, length-take i lines) in
    let front : take i lines ++ line ∷ [] ≡ take (length (take i lines) + 1) lines = sym more ∙ ap (λ (n : ℕ). take (n + 1) lines) count in
    let text : c.as_slice.result.now ≡ reply_line reply = c.as_slice.ensures ∙ c.set.ensures in
    let given = subst (λ (xs : List ℕ). log c.give.new.self ≡ log c.loop-line.out ++ moved (take c.in_err-give.ensures.log.0 xs) ∷ failed ∷ []) text c.in_err-give.ensures.log.1 in
    on_err c.from_residual.result _ (λ d numbers before shows calm.
    let so = c.loop-line.invariant.runs d numbers before shows calm in
    let s = (c.step.ensures.step d (c.loop-line.invariant.numbers d numbers)).step so.0 so.1 (calm_now d so.0.device.die lines so.2) in (
      s.0,
      s.1,
      run_cut_off d before so.0 s.0 (take i lines) line reply (log c.args.out.now) (log c.loop-line.out) (log c.give.new.self) so.3 s.2 lines front c.in_err-give.ensures.log.0 given,
    ))

pub returns-in_err-give-clause-fault : goal.returns-in_err-give-clause-fault
returns-in_err-give-clause-fault g c =
    let log = g.O.Sink.log in
    let grew = c.loop-line.invariant.held in
    on_err c.from_residual.result _ (gave_failed (log c.args.out.now) (log c.loop-line.out)
    (log c.give.new.self) grew.events c.as_slice.result.now c.in_err-give.ensures.log.0 grew.came c.in_err-give.ensures.log.1)

pub returns-in_err-give-clause-grew : goal.returns-in_err-give-clause-grew
returns-in_err-give-clause-grew g c =
    let held = held_more c.loop-line.invariant.held c.in_err-give.ensures.held in
    (held.events, held.came)

pub returns-in_err-give-clause-held : goal.returns-in_err-give-clause-held
returns-in_err-give-clause-held g c = held_more c.loop-line.invariant.held c.in_err-give.ensures.held

pub returns-in_err-give-clause-keeps : goal.returns-in_err-give-clause-keeps
returns-in_err-give-clause-keeps g c = λ d numbers die has.
    let one = c.loop-line.invariant.keeps d numbers die has in
    let two = (c.step.ensures.step d (c.loop-line.invariant.numbers d numbers)).keeps one.0 one.1 in
    (two.0, two.1, keeps_more d die one.0 two.0 one.2 two.2)

pub returns-in_err-give-clause-answered_front : goal.returns-in_err-give-clause-answered_front
returns-in_err-give-clause-answered_front g c =
    let log = g.O.Sink.log in
    let lines = c.args.lines.now in
    let i = c.loop-line.line-index in
    let line = c.line-item.result in
    let reply = c.step.new.reply in
    let more : take (i + 1) lines ≡ take i lines ++ line ∷ [] = take_more lines i line (omega arith) ∙ ap (λ item. take i lines ++ item ∷ []) (sym c.line-item.is) in
    let count : i ≡ length (take i lines) = omega (arith, length-take i lines) in
    let front : take i lines ++ line ∷ [] ≡ take (length (take i lines) + 1) lines = sym more ∙ ap (λ (n : ℕ). take (n + 1) lines) count in
    let text : c.as_slice.result.now ≡ reply_line reply = c.as_slice.ensures ∙ c.set.ensures in
    let given = subst (λ (xs : List ℕ). log c.give.new.self ≡ log c.loop-line.out ++ moved (take c.in_err-give.ensures.log.0 xs) ∷ failed ∷ []) text c.in_err-give.ensures.log.1 in
    on_err c.from_residual.result _ (λ d numbers.
    answers_cut_off d _ _ _ (take i lines) line reply (log c.args.out.now) (log c.loop-line.out) (log c.give.new.self) (c.loop-line.invariant.answered d numbers)
    (c.step.ensures.answers d (c.loop-line.invariant.numbers d numbers)) lines front c.in_err-give.ensures.log.0 given)

pub returns-clause-answered : goal.returns-clause-answered
returns-clause-answered g c = λ d numbers.
    let whole : take c.loop-line.line-index c.args.lines.now ≡ c.args.lines.now = take_all c.loop-line.line-index c.args.lines.now (omega arith) in
    subst (λ (ls : List Line). AnswersAll d (g.S.Stepping.session c.args.session.now) ls (g.S.Stepping.session c.loop-line.session) (g.O.Sink.log c.args.out.now) (g.O.Sink.log c.loop-line.out)) whole
    (c.loop-line.invariant.answered d numbers)
