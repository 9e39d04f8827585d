-- The die that was closed is mounted again, from each view that the session stood for.
use Rattle.std.proofs.Common.{refl}
use Rattle.rssd_run.specs.Shows.{Parts}
use Rattle.rssd_run.proofs.Exchanges.{mount_answers, refusal_answers}
use Rattle.rssd_run.proofs.Fields.{Gave, gave_small, held_again, mount_done, mount_refused_so}
use Rattle.rssd_run.proofs.run.session.Session.mount.Goals as goal

pub returns-in-Ok-clause-step : goal.returns-in-Ok-clause-step
returns-in-Ok-clause-step g c = λ d numbers.
    mount_done g.D.Die.state g.C.Scheme.meaning g.F.Device.device c.args.self.now _ c.self.view_is d numbers c.close_held-die.result c.close_held-die.new.base
    (record { device_is = c.close_held-die.ensures.device; counts = c.close_held-die.ensures.counts; die = c.close_held-die.ensures.die }) c.self.invariant c.in-Ok.ftl c.in-Ok.ensures.done

pub returns-in-Err-clause-step : goal.returns-in-Err-clause-step
returns-in-Err-clause-step g c = λ d numbers.
    rw c.refusal_reply.ensures
    (mount_refused_so g.D.Die.state g.C.Scheme.meaning g.F.Device.device c.args.self.now _ c.self.view_is d numbers c.close_held-die.result c.close_held-die.new.base
    (record { device_is = c.close_held-die.ensures.device; counts = c.close_held-die.ensures.counts; die = c.close_held-die.ensures.die }) c.self.invariant c.close_held-die.new.mounted
    (c.in-Err.refused.die, c.in-Err.refused.scheme) c.in-Err.refused.why c.close_held-die.ensures.mounted c.in-Err.ensures.refused)

pub invariant_of-self : goal.invariant_of-self
invariant_of-self g c =
    let p : Parts g.row.D.Denot g.row.C.Denot g.row.F.Denot = record { mounted = c.self.inside.mounted; closed = c.self.inside.closed; plan = c.self.inside.plan; base = c.self.inside.base } in
    let gave : Gave g.D.Die.state g.C.Scheme.meaning g.F.Device.device p c.close_held-die.result c.close_held-die.new.base
    = record { device_is = c.close_held-die.ensures.device; counts = c.close_held-die.ensures.counts; die = c.close_held-die.ensures.die } in
    record {
      small = gave_small g.D.Die.state g.C.Scheme.meaning g.F.Device.device p c.close_held-die.result c.close_held-die.new.base gave c.self.invariant.small p.mounted refl;
      held = held_again g.D.Die.state g.C.Scheme.meaning g.F.Device.device p c.close_held-die.result c.close_held-die.new.base gave c.self.invariant.held c.in-Ok.ftl c.in-Ok.ensures.done;
    }

pub returns-in-Ok-clause-answers : goal.returns-in-Ok-clause-answers
returns-in-Ok-clause-answers g c = λ d numbers.
    mount_answers g.D.Die.state g.C.Scheme.meaning g.F.Device.device c.args.self.now _ c.self.view_is d numbers c.close_held-die.result c.close_held-die.new.base
    (record { device_is = c.close_held-die.ensures.device; counts = c.close_held-die.ensures.counts; die = c.close_held-die.ensures.die }) c.self.invariant c.in-Ok.ftl c.in-Ok.ensures.mounts

pub returns-in-Err-clause-answers : goal.returns-in-Err-clause-answers
returns-in-Err-clause-answers g c = λ d numbers.
    rw c.refusal_reply.ensures
    (refusal_answers g.D.Die.state g.C.Scheme.meaning g.F.Device.device c.args.self.now _ c.self.view_is d numbers c.close_held-die.result c.close_held-die.new.base
    (record { device_is = c.close_held-die.ensures.device; counts = c.close_held-die.ensures.counts; die = c.close_held-die.ensures.die }) c.self.invariant c.close_held-die.new.mounted
    (c.in-Err.refused.die, c.in-Err.refused.scheme) c.in-Err.refused.why c.close_held-die.ensures.mounted c.in-Err.ensures.refused.shape c.in-Err.ensures.scheme c.in-Err.ensures.refuses)
