-- the bytes so far stand on the disk; they end where a sector ends, unless they are all
use Rattle.std.proofs.Common.{◌≡◌, ◌+◌, ◌-◌, ◌%◌, ◌<◌, ◌≤◌, take}
use Rattle.rssd_disk.specs.Data.{bytes_in}
use Rattle.rssd_disk.specs.Puts.{HasPut}
use Rattle.rssd_disk.proofs.bytes.put_bytes.Given as goal

abbrev pub invariant-loop-done : goal.invariant-loop-done
invariant-loop-done g l = record {
  within : l.done ≤ l.count;
  put : HasPut (g.F.Device.device l.fn.ftl).numbers l.place (take l.done (bytes_in l.bytes)) (g.F.Device.device l.fn.ftl) (g.F.Device.device l.ftl);
  at_sector : 0 < l.done → l.done < l.count → (l.place + l.done) % (g.F.Device.device l.fn.ftl).numbers.geometry.sector_bytes ≡ 0;
}

abbrev pub decreases-loop-done : goal.decreases-loop-done
decreases-loop-done g l = l.count - l.done
