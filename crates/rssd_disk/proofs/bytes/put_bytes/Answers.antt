-- Each turn puts what is next behind what stands there.
use Rattle.std.proofs.Common.{ℕ, ◌+◌, ◌≤◌, List, sym, subst, arith}
use Rattle.std.proofs.lemmas.List.{take_all}
use Rattle.rssd_core.specs.DeviceValue.{Numbers, DeviceValue}
use Rattle.rssd_disk.specs.Data.{bytes_in}
use Rattle.rssd_disk.specs.Disk.{disk_size, IsDisk, IsNext}
use Rattle.rssd_disk.specs.Puts.{HasPut}
use Rattle.rssd_disk.proofs.Loops.{start_put, step_put, step_fails, on_err}
use Rattle.rssd_disk.proofs.bytes.put_bytes.Goals as goal

pub loop-done-init : goal.loop-done-init
loop-done-init g c =
    let old : DeviceValue = g.F.Device.device c.args.ftl.now in
    record { within = omega arith; put = start_put old.numbers c.args.place old c.requires.running; at_sector = λ some below. absurd (omega arith) }

pub next_part-part-requires : goal.next_part-part-requires
next_part-part-requires g c =
    let numbers = c.loop-done.invariant.put.keeps.numbers in
    record {
      sizes = subst IsDisk (sym numbers) c.requires.sizes;
      within = subst (λ (n : Numbers). c.args.place + c.count-count.result ≤ disk_size n) (sym numbers) (omega (arith, c.requires.within, c.count-count.ensures));
      more = omega arith;
    }

pub put_part-requires : goal.put_part-requires
put_part-requires g c = record {
  sizes = subst IsDisk (sym c.loop-done.invariant.put.keeps.numbers) c.requires.sizes;
  part = c.next_part-part.ensures.fits;
  within = omega (arith, c.next_part-part.ensures.within, c.count-count.ensures);
  running = c.loop-done.invariant.put.running;
}

pub returns-in_err-put_part-clause-fault : goal.returns-in_err-put_part-clause-fault
returns-in_err-put_part-clause-fault g c =
    on_err c.from_residual.result (step_fails (bytes_in c.args.bytes.now) (g.F.Device.device c.put_part.new.ftl) c.requires.within c.loop-done.invariant.put
    (rw c.count-count.ensures at c.next_part-part.ensures) (λ some below. c.loop-done.invariant.at_sector some (omega (arith, c.count-count.ensures))) c.in_err-put_part.ensures.fault)

pub loop-done-preserved : goal.loop-done-preserved
loop-done-preserved g c = record {
  within = c.next_part-part.ensures.within;
  put = step_put (bytes_in c.args.bytes.now) (g.F.Device.device c.put_part.new.ftl) c.requires.within c.loop-done.invariant.put (rw c.count-count.ensures at c.next_part-part.ensures)
      c.in_ok-put_part.ensures.put;
  at_sector = λ some below. (subst (λ (n : Numbers). IsNext n c.args.place c.count-count.result c.loop-done.done c.next_part-part.result) c.loop-done.invariant.put.keeps.numbers
      c.next_part-part.ensures).to_end below;
}

pub returns-clause-put : goal.returns-clause-put
returns-clause-put g c =
    let old : DeviceValue = g.F.Device.device c.args.ftl.now in
    subst (λ (l : List ℕ). HasPut old.numbers c.args.place l old (g.F.Device.device c.loop-done.ftl)) (take_all c.loop-done.done (bytes_in c.args.bytes.now) (omega (arith, c.count-count.ensures)))
    c.loop-done.invariant.put
