-- One line more leads on from those before it, and at the end all that waits is served.
use Rattle.std.proofs.Common.{◌≡◌, ℕ, ◌+◌, List, [], ◌∷◌, length, drop, sym, ap, ◌∙◌, refl, arith}
use Rattle.std.proofs.lemmas.List.{drop_more, drop_all}
use Rattle.rssd_io.proofs.Told.{held_same, held_more}
use Rattle.rssd_script.specs.declared.lines.Line.{Line}
use Rattle.rssd_run.specs.QueueActs.{place}
use Rattle.rssd_run.proofs.QueueActs.{session_none, session_then, session_cut, session_at, cut_at}
use Rattle.rssd_run.proofs.QueueTags.{always_err, none_waits, ok_then, err_then}
use Rattle.rssd_run.proofs.run.queue_lines.queue_lines.Goals as goal

pub loop-line-init : goal.loop-line-init
loop-line-init g c = record {
  tag = refl;
  numbers = λ d numbers. numbers;
  queue_of = c.requires.queue_of;
  held = held_same (g.O.Sink.written c.args.out.now) (g.O.Sink.log c.args.out.now);
  new_tags = λ n low. none_waits c.args.queue.now c.requires.none_waits n;
  acts = λ d numbers. session_none d (place c.args.lines.now 1 c.args.queue.now) (g.S.Stepping.session c.args.session.now) (g.O.Sink.log c.args.out.now);
}

pub loop-line-preserved : goal.loop-line-preserved
loop-line-preserved g c =
    let session = g.S.Stepping.session in
    let log = g.O.Sink.log in
    let lines : List Line = c.args.lines.now in
    let i : ℕ = c.loop-line.line-index in
    let tag : ℕ = c.loop-line.tag in
    let line : Line = c.line-item.result in
    let rest : List Line = drop (i + 1) lines in
    let same : tag ≡ i = c.loop-line.invariant.tag in
    let more : drop i lines ≡ line ∷ rest = drop_more lines i line (omega arith) ∙ ap (λ item. item ∷ rest) (sym c.line-item.is) in
    let from : place (line ∷ rest) (tag + 1) c.loop-line.queue ≡ place (drop i lines) (i + 1) c.loop-line.queue = λ j. place (sym more j) (same j + 1) c.loop-line.queue in
    let to : place rest (tag + 1 + 1) c.take_line.new.queue ≡ place rest (i + 1 + 1) c.take_line.new.queue = λ j. place rest (same j + 1 + 1) c.take_line.new.queue in
    record {
      tag = ap (λ n. n + 1) same;
      numbers = λ d numbers. c.take_line.ensures.numbers d (c.loop-line.invariant.numbers d numbers);
      queue_of = c.take_line.ensures.queue_of;
      held = held_more c.loop-line.invariant.held c.take_line.ensures.held;
      new_tags = λ n low. c.in_ok-take_line.ensures.tags n (omega (arith, same, low));
      acts = λ d numbers.
          session_then d (place lines 1 c.args.queue.now) (place (drop i lines) (i + 1) c.loop-line.queue) (place rest (i + 1 + 1) c.take_line.new.queue)
          (session c.args.session.now) (session c.loop-line.session) (session c.take_line.new.session) (log c.args.out.now) (log c.loop-line.out) (log c.take_line.new.out)
          (c.loop-line.invariant.acts d numbers)
          (session_at d (place (line ∷ rest) (tag + 1) c.loop-line.queue) (place (drop i lines) (i + 1) c.loop-line.queue) (place rest (tag + 1 + 1) c.take_line.new.queue)
          (place rest (i + 1 + 1) c.take_line.new.queue)
          (session c.loop-line.session) (session c.take_line.new.session) (log c.loop-line.out) (log c.take_line.new.out) from to
          (c.in_ok-take_line.ensures.ok d (c.loop-line.invariant.numbers d numbers) rest));
    }

pub returns-in_err-take_line-clause-err : goal.returns-in_err-take_line-clause-err
returns-in_err-take_line-clause-err g c = always_err c.from_residual.result _ (λ d numbers.
    let session = g.S.Stepping.session in
    let log = g.O.Sink.log in
    let lines : List Line = c.args.lines.now in
    let i : ℕ = c.loop-line.line-index in
    let tag : ℕ = c.loop-line.tag in
    let line : Line = c.line-item.result in
    let rest : List Line = drop (i + 1) lines in
    let same : tag ≡ i = c.loop-line.invariant.tag in
    let more : drop i lines ≡ line ∷ rest = drop_more lines i line (omega arith) ∙ ap (λ item. item ∷ rest) (sym c.line-item.is) in
    let from : place (line ∷ rest) (tag + 1) c.loop-line.queue ≡ place (drop i lines) (i + 1) c.loop-line.queue = λ j. place (sym more j) (same j + 1) c.loop-line.queue in
    session_cut d (place lines 1 c.args.queue.now) (place (drop i lines) (i + 1) c.loop-line.queue)
    (session c.args.session.now) (session c.loop-line.session) (session c.take_line.new.session) (log c.args.out.now) (log c.loop-line.out) (log c.take_line.new.out)
    (c.loop-line.invariant.acts d numbers)
    (cut_at d (place (line ∷ rest) (tag + 1) c.loop-line.queue) (place (drop i lines) (i + 1) c.loop-line.queue)
    (session c.loop-line.session) (session c.take_line.new.session) (log c.loop-line.out) (log c.take_line.new.out) from
    (c.in_err-take_line.ensures.err d (c.loop-line.invariant.numbers d numbers) rest)))

pub returns-clause-ok : goal.returns-clause-ok
returns-clause-ok g c =
    let session = g.S.Stepping.session in
    let log = g.O.Sink.log in
    let lines : List Line = c.args.lines.now in
    let i : ℕ = c.loop-line.line-index in
    let all : i ≡ length lines = omega arith in
    let none : drop i lines ≡ [] = drop_all i lines (omega arith) in
    let end : place (drop i lines) (i + 1) c.loop-line.queue ≡ place [] (length lines + 1) c.loop-line.queue = λ j. place (none j) (all j + 1) c.loop-line.queue in
    ok_then c.serve_all.result _ _ (λ ok d numbers.
    session_then d (place lines 1 c.args.queue.now) (place [] (length lines + 1) c.loop-line.queue) (place [] (length lines + 1) c.serve_all.new.queue)
    (session c.args.session.now) (session c.loop-line.session) (session c.serve_all.new.session) (log c.args.out.now) (log c.loop-line.out) (log c.serve_all.new.out)
    (session_at d (place lines 1 c.args.queue.now) (place lines 1 c.args.queue.now) (place (drop i lines) (i + 1) c.loop-line.queue) (place [] (length lines + 1) c.loop-line.queue)
    (session c.args.session.now) (session c.loop-line.session) (log c.args.out.now) (log c.loop-line.out) refl end (c.loop-line.invariant.acts d numbers))
    (ok d (c.loop-line.invariant.numbers d numbers) [] (length lines + 1) tt)) c.serve_all.ensures.ok

pub returns-clause-err : goal.returns-clause-err
returns-clause-err g c =
    let session = g.S.Stepping.session in
    let log = g.O.Sink.log in
    let lines : List Line = c.args.lines.now in
    let i : ℕ = c.loop-line.line-index in
    let all : i ≡ length lines = omega arith in
    let none : drop i lines ≡ [] = drop_all i lines (omega arith) in
    let end : place (drop i lines) (i + 1) c.loop-line.queue ≡ place [] (length lines + 1) c.loop-line.queue = λ j. place (none j) (all j + 1) c.loop-line.queue in
    err_then c.serve_all.result _ _ (λ err d numbers.
    session_cut d (place lines 1 c.args.queue.now) (place [] (length lines + 1) c.loop-line.queue)
    (session c.args.session.now) (session c.loop-line.session) (session c.serve_all.new.session) (log c.args.out.now) (log c.loop-line.out) (log c.serve_all.new.out)
    (session_at d (place lines 1 c.args.queue.now) (place lines 1 c.args.queue.now) (place (drop i lines) (i + 1) c.loop-line.queue) (place [] (length lines + 1) c.loop-line.queue)
    (session c.args.session.now) (session c.loop-line.session) (log c.args.out.now) (log c.loop-line.out) refl end (c.loop-line.invariant.acts d numbers))
    (err d (c.loop-line.invariant.numbers d numbers) [] (length lines + 1) tt)) c.serve_all.ensures.err

pub returns-in_err-take_line-clause-held : goal.returns-in_err-take_line-clause-held
returns-in_err-take_line-clause-held g c = held_more c.loop-line.invariant.held c.take_line.ensures.held

pub returns-clause-held : goal.returns-clause-held
returns-clause-held g c = held_more c.loop-line.invariant.held c.serve_all.ensures.held
