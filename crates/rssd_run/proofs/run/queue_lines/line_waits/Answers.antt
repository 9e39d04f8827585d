-- A command is put behind the serve that made room, or is not put and nothing changes.
use Rattle.std.proofs.Common.{◌≡◌, ℕ, ◌+◌, ◌∷◌, Some, sym, ◌∙◌, subst}
use Rattle.rssd_queue.specs.declared.ask.Tagged.{Tagged}
use Rattle.rssd_queue.specs.Waiting.{Waiting}
use Rattle.rssd_script.specs.declared.lines.Line.{Line}
use Rattle.rssd_run.specs.Serves.{ask_of}
use Rattle.rssd_run.specs.QueueActs.{place, ActsSession}
use Rattle.rssd_run.proofs.QueueActs.{session_then, put_acts}
use Rattle.rssd_run.proofs.QueueTags.{always_err}
use Rattle.rssd_run.proofs.run.queue_lines.line_waits.Goals as goal

pub returns-in_err-make_room-in-Some-clause-err : goal.returns-in_err-make_room-in-Some-clause-err
returns-in_err-make_room-in-Some-clause-err g c = always_err c.from_residual.result _ (λ d numbers lines.
    c.in_err-make_room-in-Some.ensures.err d numbers c.args.line.now c.in-Some.ask lines c.args.tag (sym c.ask_of.ensures ∙ c.in-Some.is))

pub returns-in_ok-make_room-in-Some-clause-put : goal.returns-in_ok-make_room-in-Some-clause-put
returns-in_ok-make_room-in-Some-clause-put g c = λ is d numbers lines.
    let session = g.S.Stepping.session in
    let log = g.O.Sink.log in
    let line : Line = c.args.line.now in
    let tag : ℕ = c.args.tag in
    let asks : ask_of line ≡ Some c.in-Some.ask = sym c.ask_of.ensures ∙ c.in-Some.is in
    let command : Tagged = record { tag = tag; ask = c.in-Some.ask } in
    let put = c.put.ensures.put is in
    session_then d (place (line ∷ lines) tag c.args.queue.now) (place (line ∷ lines) tag c.make_room.new.queue) (place lines (tag + 1) c.put.new.queue)
    (session c.args.session.now) (session c.make_room.new.session) (session c.make_room.new.session) (log c.args.out.now) (log c.make_room.new.out) (log c.make_room.new.out)
    (c.in_ok-make_room-in-Some.ensures.ok d numbers line c.in-Some.ask lines tag asks)
    (put_acts d (session c.make_room.new.session) line command c.make_room.new.queue c.put.new.queue lines (log c.make_room.new.out) put.0 asks put.1)

pub returns-in_ok-make_room-in-Some-clause-not_put : goal.returns-in_ok-make_room-in-Some-clause-not_put
returns-in_ok-make_room-in-Some-clause-not_put g c = λ is d numbers lines.
    let session = g.S.Stepping.session in
    let log = g.O.Sink.log in
    let line : Line = c.args.line.now in
    let asks : ask_of line ≡ Some c.in-Some.ask = sym c.ask_of.ensures ∙ c.in-Some.is in
    subst (λ (q : Waiting). ActsSession d (place (line ∷ lines) c.args.tag c.args.queue.now) (session c.args.session.now) (place (line ∷ lines) c.args.tag q) (session c.make_room.new.session)
    (log c.args.out.now) (log c.make_room.new.out))
    (sym (c.put.ensures.same is)) (c.in_ok-make_room-in-Some.ensures.ok d numbers line c.in-Some.ask lines c.args.tag asks)
