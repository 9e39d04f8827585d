-- A session whose device runs serves as the device does, and any other answers `off`.
use Rattle.std.proofs.Common.{sym, ◌∙◌}
use Rattle.rssd_run.proofs.Fields.{no_device_off, stopped_off, device_answers}
use Rattle.rssd_run.proofs.ServedSteps.{some_then, session_serves, session_serves_on, asks_device}
use Rattle.rssd_run.specs.Serves.{line_of}
use Rattle.rssd_run.proofs.run.session.Session.serve.Goals as goal

pub returns-in_default-clause-served : goal.returns-in_default-clause-served
returns-in_default-clause-served g c = some_then c.serve_off.result _ _ (λ told taken d numbers.
    session_serves d _ _ told _ _ taken (λ ask.
    no_device_off g.D.Die.state g.C.Scheme.meaning g.F.Device.device c.args.self.now _ c.self.view_is d numbers c.in_default.is c.self.invariant.small (line_of ask)
    (asks_device ask))) c.serve_off.ensures.taken

pub returns-then-stopped-clause-served : goal.returns-then-stopped-clause-served
returns-then-stopped-clause-served g c = some_then c.serve_off-then-stopped.result _ _ (λ told taken d numbers.
    session_serves d _ _ told _ _ taken (λ ask.
    stopped_off g.D.Die.state g.C.Scheme.meaning g.F.Device.device c.args.self.now _ c.self.view_is d numbers c.in-Some.ftl c.in-Some.is
    (sym c.stopped.ensures ∙ c.if-stopped.true) c.self.invariant.small
    (line_of ask) (asks_device ask))) c.serve_off-then-stopped.ensures.taken

pub returns-clause-served : goal.returns-clause-served
returns-clause-served g c = some_then c.serve_on.result _ _ (λ told served d numbers.
    session_serves_on d _ _ told _ _ _ _ served (λ ask steps.
    device_answers g.D.Die.state g.C.Scheme.meaning g.F.Device.device c.args.self.now _ c.self.view_is d numbers c.in-Some.ftl c.serve_on.new.ftl (line_of ask) told.1 c.in-Some.is
    (sym c.stopped.ensures ∙ c.if-stopped.false) steps)) c.serve_on.ensures.served
