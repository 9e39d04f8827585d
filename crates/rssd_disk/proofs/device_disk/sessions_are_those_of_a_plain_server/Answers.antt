-- Each answer of a disk over a device is one of a plain server.
use Rattle.rssd_disk.proofs.PlainSessions.{device_length, device_sessions}
use Rattle.rssd_disk.proofs.device_disk.sessions_are_those_of_a_plain_server.Goals as goal

pub returns-clause-whole : goal.returns-clause-whole
returns-clause-whole g c = λ disk is. device_length g.D.Die.state g.C.Scheme.meaning g.F.Device.device disk is

pub returns-clause-plain : goal.returns-clause-plain
returns-clause-plain g c = λ disk last ended from left to given is session. device_sessions g.D.Die.state g.C.Scheme.meaning g.F.Device.device disk last ended from left to given is session
