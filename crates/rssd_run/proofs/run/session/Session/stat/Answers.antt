-- What is told are the tallies of each view.
use Rattle.std.proofs.Common.{◌≡◌, ◌∙◌}
use Rattle.rssd_run.specs.Held.{added_tallies, tallies_of}
use Rattle.rssd_run.specs.Shows.{Parts, tallies}
use Rattle.rssd_run.proofs.Exchanges.{stat_of_device, stat_of_die}
use Rattle.rssd_run.proofs.Fields.{stat_answers, stat_mounted, stat_closed}
use Rattle.rssd_run.proofs.run.session.Session.stat.Goals as goal

pub returns-in-Some-clause-step : goal.returns-in-Some-clause-step
returns-in-Some-clause-step g c = λ d numbers.
    let p : Parts g.row.D.Denot g.row.C.Denot g.row.F.Denot = record { mounted = c.self.inside.mounted; closed = c.self.inside.closed; plan = c.self.inside.plan; base = c.self.inside.base } in
    let told : tallies c.counts.result ≡ tallies_of (g.F.Device.device c.in-Some.ftl).view
    = λ i. record { first = c.counts.ensures.first i; second = c.counts.ensures.second i; declined = c.counts.ensures.declined i; moved = c.counts.ensures.moved i } in
    let sum : tallies c.added.result ≡ added_tallies (tallies p.base) (tallies_of (g.F.Device.device c.in-Some.ftl).view) = c.added.ensures ∙ (λ i. added_tallies (tallies p.base) (told i)) in
    stat_answers g.D.Die.state g.C.Scheme.meaning g.F.Device.device c.args.self.now p c.self.view_is d numbers c.stat_reply.result c.self.invariant
    (stat_mounted g.D.Die.state g.C.Scheme.meaning g.F.Device.device d p c.in-Some.ftl c.added.result c.erased.result c.stat_reply.result c.in-Some.is sum c.erased.ensures c.stat_reply.ensures)

pub returns-in-Some-closed-clause-step : goal.returns-in-Some-closed-clause-step
returns-in-Some-closed-clause-step g c = λ d numbers.
    let p : Parts g.row.D.Denot g.row.C.Denot g.row.F.Denot = record { mounted = c.self.inside.mounted; closed = c.self.inside.closed; plan = c.self.inside.plan; base = c.self.inside.base } in
    let reply = c.stat_reply-in-Some-closed in
    stat_answers g.D.Die.state g.C.Scheme.meaning g.F.Device.device c.args.self.now p c.self.view_is d numbers reply.result c.self.invariant
    (stat_closed g.D.Die.state g.C.Scheme.meaning g.F.Device.device d p (c.in-Some-closed.die, c.in-Some-closed.field-0-1) c.erased-in-Some-closed.result reply.result c.in-None.is c.in-Some-closed.is
    c.erased-in-Some-closed.ensures reply.ensures)

pub returns-in-Some-clause-answers : goal.returns-in-Some-clause-answers
returns-in-Some-clause-answers g c = λ d numbers.
    let p : Parts g.row.D.Denot g.row.C.Denot g.row.F.Denot = record { mounted = c.self.inside.mounted; closed = c.self.inside.closed; plan = c.self.inside.plan; base = c.self.inside.base } in
    let told : tallies c.counts.result ≡ tallies_of (g.F.Device.device c.in-Some.ftl).view
    = λ i. record { first = c.counts.ensures.first i; second = c.counts.ensures.second i; declined = c.counts.ensures.declined i; moved = c.counts.ensures.moved i } in
    let sum : tallies c.added.result ≡ added_tallies (tallies p.base) (tallies_of (g.F.Device.device c.in-Some.ftl).view) = c.added.ensures ∙ (λ i. added_tallies (tallies p.base) (told i)) in
    stat_of_device g.D.Die.state g.C.Scheme.meaning g.F.Device.device c.args.self.now p c.self.view_is d numbers c.in-Some.ftl c.added.result c.erased.result c.stat_reply.result c.in-Some.is sum
    c.erased.ensures c.stat_reply.ensures

pub returns-in-Some-closed-clause-answers : goal.returns-in-Some-closed-clause-answers
returns-in-Some-closed-clause-answers g c = λ d numbers.
    let p : Parts g.row.D.Denot g.row.C.Denot g.row.F.Denot = record { mounted = c.self.inside.mounted; closed = c.self.inside.closed; plan = c.self.inside.plan; base = c.self.inside.base } in
    let reply = c.stat_reply-in-Some-closed in
    stat_of_die g.D.Die.state g.C.Scheme.meaning g.F.Device.device c.args.self.now p c.self.view_is d numbers
    (c.in-Some-closed.die, c.in-Some-closed.field-0-1) c.erased-in-Some-closed.result reply.result
    c.in-None.is c.in-Some-closed.is c.erased-in-Some-closed.ensures reply.ensures
