-- A line that does not wait is answered at once behind what made way for it.
use Rattle.std.proofs.Common.{ℕ, ◌+◌, ◌∷◌, refl}
use Rattle.rssd_script.specs.declared.lines.Line.{Line}
use Rattle.rssd_run.specs.QueueActs.{place}
use Rattle.rssd_run.proofs.QueueActs.{session_then, session_cut}
use Rattle.rssd_run.proofs.QueueTags.{same_of, ok_then, err_then}
use Rattle.rssd_run.proofs.run.queue_lines.take_line.Goals as goal

pub returns-clause-numbers : goal.returns-clause-numbers
returns-clause-numbers g c = λ d numbers. c.answer_at_once.ensures.numbers d (c.line_waits.ensures.numbers d numbers)

pub returns-clause-queue_of : goal.returns-clause-queue_of
returns-clause-queue_of g c =
    same_of (g.S.Stepping.session c.line_waits.new.session) (g.S.Stepping.session c.answer_at_once.new.session) c.line_waits.new.queue c.line_waits.new.queue c.line_waits.ensures.queue_of
    c.answer_at_once.ensures.numbers refl

pub returns-clause-ok : goal.returns-clause-ok
returns-clause-ok g c =
    let session = g.S.Stepping.session in
    let log = g.O.Sink.log in
    let line : Line = c.args.line.now in
    let tag : ℕ = c.args.tag in
    let queue = c.line_waits.new.queue in
    ok_then c.answer_at_once.result _ _ (λ ok d numbers lines.
    session_then d (place (line ∷ lines) tag c.args.queue.now) (place (line ∷ lines) tag queue) (place lines (tag + 1) queue)
    (session c.args.session.now) (session c.line_waits.new.session) (session c.answer_at_once.new.session) (log c.args.out.now) (log c.line_waits.new.out) (log c.answer_at_once.new.out)
    (c.in_ok-line_waits.ensures.not_put c.if-branch.false d numbers lines)
    (ok d (c.line_waits.ensures.numbers d numbers) lines queue (c.in_ok-line_waits.ensures.due c.if-branch.false))) c.answer_at_once.ensures.ok

pub returns-clause-err : goal.returns-clause-err
returns-clause-err g c =
    let session = g.S.Stepping.session in
    let log = g.O.Sink.log in
    let line : Line = c.args.line.now in
    let tag : ℕ = c.args.tag in
    let queue = c.line_waits.new.queue in
    err_then c.answer_at_once.result _ _ (λ err d numbers lines.
    session_cut d (place (line ∷ lines) tag c.args.queue.now) (place (line ∷ lines) tag queue)
    (session c.args.session.now) (session c.line_waits.new.session) (session c.answer_at_once.new.session) (log c.args.out.now) (log c.line_waits.new.out) (log c.answer_at_once.new.out)
    (c.in_ok-line_waits.ensures.not_put c.if-branch.false d numbers lines)
    (err d (c.line_waits.ensures.numbers d numbers) lines queue (c.in_ok-line_waits.ensures.due c.if-branch.false))) c.answer_at_once.ensures.err
