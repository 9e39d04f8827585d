-- A device that was mounted has the bytes of its die.
use Rattle.std.proofs.Common.{refl}
use Rattle.rssd_disk.proofs.Mounting.{mounts_bytes, mounts_disk}
use Rattle.rssd_disk.proofs.device_disk.DeviceDisk.start.Goals as goal

pub returns-in-Ok-clause-is_disk : goal.returns-in-Ok-clause-is_disk
returns-in-Ok-clause-is_disk g c =
    mounts_disk g.D.Die.state g.C.Scheme.meaning g.F.Device.device (g.D.Die.state c.args.die).shape (g.C.Scheme.meaning c.args.scheme) (g.D.Die.state c.args.die) _ c.in-Ok.ftl refl refl
    c.in-Ok.ensures.fits c.in-Ok.ensures.mounted c.size_of-size.ensures

pub returns-in-Ok-clause-bytes : goal.returns-in-Ok-clause-bytes
returns-in-Ok-clause-bytes g c =
    mounts_bytes (g.D.Die.state c.args.die).shape (g.C.Scheme.meaning c.args.scheme) c.args.plan (g.D.Die.state c.args.die) (g.F.Device.device c.in-Ok.ftl) refl c.in-Ok.ensures.mounted
