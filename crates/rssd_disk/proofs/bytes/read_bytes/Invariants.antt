-- the front of the room holds what was read
use Rattle.std.proofs.Common.{◌≡◌, ◌-◌, ◌≤◌, take}
use Rattle.rssd_disk.specs.Bytes.{part_of}
use Rattle.rssd_disk.specs.Disk.{disk}
use Rattle.rssd_disk.specs.Puts.{Same}
use Rattle.rssd_disk.proofs.bytes.read_bytes.Given as goal

abbrev pub invariant-loop-done : goal.invariant-loop-done
invariant-loop-done g l = record {
  within : l.done ≤ l.count;
  same : Same (g.F.Device.device l.fn.ftl).numbers (g.F.Device.device l.fn.ftl) (g.F.Device.device l.ftl);
  read : take l.done l.into ≡ part_of l.place l.done (disk (g.F.Device.device l.fn.ftl).numbers (g.F.Device.device l.fn.ftl).view);
}

abbrev pub decreases-loop-done : goal.decreases-loop-done
decreases-loop-done g l = l.count - l.done
