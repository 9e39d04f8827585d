-- Each turn puts what is next behind what stands there.
use Rattle.std.proofs.Common.{◌≡◌, ℕ, ◌+◌, ◌-◌, ◌≤◌, List, length, drop, refl, ap, sym, ◌∙◌, subst, arith}
use Rattle.std.proofs.lemmas.List.{take_all, length-take, length-drop}
use Rattle.rssd_core.specs.DeviceValue.{Numbers, DeviceValue}
use Rattle.rssd_disk.specs.Bytes.{part_of}
use Rattle.rssd_disk.specs.Disk.{disk, disk_size, IsDisk}
use Rattle.rssd_disk.proofs.Loops.{on_err, same_refl, step_same, step_read, step_read_fails}
use Rattle.rssd_disk.proofs.bytes.read_bytes.Goals as goal

pub loop-done-init : goal.loop-done-init
loop-done-init g c =
    let old : DeviceValue = g.F.Device.device c.args.ftl.now in
    record { within = omega arith; same = same_refl old.numbers old c.requires.running; read = refl }

pub next_part-part-requires : goal.next_part-part-requires
next_part-part-requires g c =
    let numbers = c.loop-done.invariant.same.keeps.numbers in
    record {
      sizes = subst IsDisk (sym numbers) c.requires.sizes;
      within = subst (λ (n : Numbers). c.args.place + length c.args.into.now ≤ disk_size n) (sym numbers) c.requires.within;
      more = omega arith;
    }

pub read_part-requires-clause-sizes : goal.read_part-requires-clause-sizes
read_part-requires-clause-sizes g c = subst IsDisk (sym c.loop-done.invariant.same.keeps.numbers) c.requires.sizes

pub returns-in_err-read_part-clause-fault : goal.returns-in_err-read_part-clause-fault
returns-in_err-read_part-clause-fault g c =
    on_err c.from_residual.result (step_read_fails (g.F.Device.device c.read_part.new.ftl) c.loop-done.invariant.same c.in_err-read_part.ensures.fault)

pub loop-done-preserved : goal.loop-done-preserved
loop-done-preserved g c =
    let part = c.next_part-part.result in
    let k : ℕ = c.loop-done.done + part.count - c.loop-done.done in
    let long : length c.read_part.new.into ≡ part.count = c.read_part.auto.into ∙ length-take k (drop c.loop-done.done c.loop-done.into)
    ∙ omega (arith, length-drop c.loop-done.done c.loop-done.into, c.loop-done.auto.into, c.next_part-part.ensures.within) in
    record {
      within = c.next_part-part.ensures.within;
      same = step_same (g.F.Device.device c.read_part.new.ftl) c.loop-done.invariant.same c.in_ok-read_part.ensures.same;
      read = step_read c.args.place c.loop-done.done k part c.loop-done.into c.read_part.new.into (g.F.Device.device c.args.ftl.now) (g.F.Device.device c.loop-done.ftl) c.loop-done.invariant.same
          (rw (sym c.loop-done.auto.into) at c.next_part-part.ensures) long c.loop-done.invariant.read c.in_ok-read_part.ensures.read;
    }

pub returns-clause-read : goal.returns-clause-read
returns-clause-read g c =
    let all : List ℕ = disk (g.F.Device.device c.args.ftl.now).numbers (g.F.Device.device c.args.ftl.now).view in
    let whole : c.loop-done.done ≡ length c.args.into.now = omega arith in
    sym (take_all c.loop-done.done c.loop-done.into (omega arith)) ∙ c.loop-done.invariant.read ∙ ap (λ n. part_of c.args.place n all) whole
