-- One serve, or none where there is room.
use Rattle.std.proofs.Common.{◌∷◌}
use Rattle.rssd_run.specs.QueueActs.{place}
use Rattle.rssd_run.proofs.QueueActs.{session_none}
use Rattle.rssd_run.proofs.QueueTags.{waits_took}
use Rattle.rssd_run.proofs.run.queue_lines.make_room.Goals as goal

pub returns-in_ok-serve_next-clause-tags : goal.returns-in_ok-serve_next-clause-tags
returns-in_ok-serve_next-clause-tags g c = λ n. waits_took c.in_ok-serve_next.field-0 c.args.queue.now c.serve_next.new.queue c.in_ok-serve_next.ensures.one n

pub returns-else-is_on-clause-ok : goal.returns-else-is_on-clause-ok
returns-else-is_on-clause-ok g c = λ d numbers line ask lines tag asks.
    session_none d (place (line ∷ lines) tag c.args.queue.now) (g.S.Stepping.session c.args.session.now) (g.O.Sink.log c.args.out.now)
