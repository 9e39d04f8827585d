-- A session whose device runs answers as the device does, and any other with `off`.
use Rattle.std.proofs.Common.{sym, ◌∙◌}
use Rattle.rssd_run.proofs.Exchanges.{no_device_answers, stopped_answers, running_answers}
use Rattle.rssd_run.proofs.Fields.{no_device_off, stopped_off, device_answers}
use Rattle.rssd_run.proofs.run.session.Session.answer.Goals as goal

pub returns-in_default-clause-step : goal.returns-in_default-clause-step
returns-in_default-clause-step g c = λ d numbers.
    no_device_off g.D.Die.state g.C.Scheme.meaning g.F.Device.device c.args.self.now _ c.self.view_is d numbers c.in_default.is c.self.invariant.small c.args.line.now c.requires.line

pub returns-then-stopped-clause-step : goal.returns-then-stopped-clause-step
returns-then-stopped-clause-step g c = λ d numbers.
    stopped_off g.D.Die.state g.C.Scheme.meaning g.F.Device.device c.args.self.now _ c.self.view_is d numbers c.in-Some.ftl c.in-Some.is
    (sym c.stopped.ensures ∙ c.if-stopped.true) c.self.invariant.small
    c.args.line.now c.requires.line

pub returns-clause-step : goal.returns-clause-step
returns-clause-step g c = λ d numbers.
    device_answers g.D.Die.state g.C.Scheme.meaning g.F.Device.device c.args.self.now _ c.self.view_is d numbers c.in-Some.ftl c.answer_line.new.ftl c.args.line.now c.answer_line.new.reply
    c.in-Some.is
    (sym c.stopped.ensures ∙ c.if-stopped.false) c.answer_line.ensures.step

pub returns-in_default-clause-answers : goal.returns-in_default-clause-answers
returns-in_default-clause-answers g c = λ d numbers.
    no_device_answers g.D.Die.state g.C.Scheme.meaning g.F.Device.device c.args.self.now _ c.self.view_is d numbers c.in_default.is c.args.line.now c.requires.line

pub returns-then-stopped-clause-answers : goal.returns-then-stopped-clause-answers
returns-then-stopped-clause-answers g c = λ d numbers.
    stopped_answers g.D.Die.state g.C.Scheme.meaning g.F.Device.device c.args.self.now _ c.self.view_is d numbers c.in-Some.ftl c.in-Some.is (sym c.stopped.ensures ∙ c.if-stopped.true)
    c.args.line.now c.requires.line

pub returns-clause-answers : goal.returns-clause-answers
returns-clause-answers g c = λ d numbers.
    running_answers g.D.Die.state g.C.Scheme.meaning g.F.Device.device c.args.self.now _ c.self.view_is d numbers c.in-Some.ftl c.answer_line.new.ftl c.args.line.now c.answer_line.new.reply
    c.in-Some.is
    (sym c.stopped.ensures ∙ c.if-stopped.false) c.requires.line c.answer_line.ensures.answers
