-- A request is asked of a device that runs, and moves no size.
use Rattle.std.proofs.Common.{sym, subst, Some}
use Rattle.rssd_core.specs.DeviceValue.{DeviceValue}
use Rattle.rssd_disk.specs.Disk.{IsDisk}
use Rattle.rssd_disk.proofs.Carried.{answers_numbers, ready_parts}
use Rattle.rssd_disk.proofs.Mounting.{answers_again, asks_answered, none_answered, ready_held}
use Rattle.rssd_disk.proofs.device_disk.DeviceDiskDisk.answer.Goals as goal

pub returns-in-Some-clause-held : goal.returns-in-Some-clause-held
returns-in-Some-clause-held g c =
    let old : DeviceValue = g.F.Device.device c.in-Some.ftl in
    let new : DeviceValue = g.F.Device.device c.answer_request.new.ftl in
    answers_again g.D.Die.state g.C.Scheme.meaning g.F.Device.device c.args.self.now (record c.ready.new.self { mounted = Some c.answer_request.new.ftl }) c.args.request.now c.args.bytes.now
    c.answer_request.new.bytes
    c.answer_request.result c.requires.held
    (subst IsDisk (sym (answers_numbers old.numbers c.args.request.now c.args.bytes.now c.answer_request.new.bytes old new c.answer_request.result c.answer_request.ensures))
    (ready_parts g.F.Device.device c.ready.new.self.mounted c.ready.new.self.closed c.in-Some.ftl c.in-Some.is c.ready.ensures.ready).0)
    (asks_answered g.D.Die.state g.C.Scheme.meaning g.F.Device.device c.args.self.now c.ready.new.self c.in-Some.ftl c.answer_request.new.ftl c.args.request.now c.args.bytes.now
    c.answer_request.new.bytes c.answer_request.result
    c.ready.ensures.plan c.ready.ensures.size c.in-Some.is c.ready.ensures.ready c.ready.ensures.comes c.answer_request.ensures)

pub returns-in-Some-clause-answered : goal.returns-in-Some-clause-answered
returns-in-Some-clause-answered g c =
    asks_answered g.D.Die.state g.C.Scheme.meaning g.F.Device.device c.args.self.now c.ready.new.self c.in-Some.ftl c.answer_request.new.ftl c.args.request.now c.args.bytes.now
    c.answer_request.new.bytes c.answer_request.result
    c.ready.ensures.plan c.ready.ensures.size c.in-Some.is c.ready.ensures.ready c.ready.ensures.comes c.answer_request.ensures

pub returns-in-None-clause-held : goal.returns-in-None-clause-held
returns-in-None-clause-held g c =
    answers_again g.D.Die.state g.C.Scheme.meaning g.F.Device.device c.args.self.now c.ready.new.self c.args.request.now c.args.bytes.now c.args.bytes.now _ c.requires.held
    (ready_held g.F.Device.device c.ready.new.self.mounted c.ready.new.self.closed c.ready.ensures.ready)
    (none_answered g.D.Die.state g.C.Scheme.meaning g.F.Device.device c.args.self.now c.ready.new.self c.args.request.now c.args.bytes.now c.ready.ensures.plan c.ready.ensures.size c.in-None.is
    c.ready.ensures.stays)

pub returns-in-None-clause-answered : goal.returns-in-None-clause-answered
returns-in-None-clause-answered g c =
    none_answered g.D.Die.state g.C.Scheme.meaning g.F.Device.device c.args.self.now c.ready.new.self c.args.request.now c.args.bytes.now c.ready.ensures.plan c.ready.ensures.size c.in-None.is
    c.ready.ensures.stays
