-- Each outcome of the put is one of the contract's, and where nothing is put the sector held zeros.
use Rattle.std.proofs.Common.{sym, ◌∙◌}
use Rattle.rssd_core.proofs.DeviceLaws.{Trimming, device_holds, device_stays, not_spent, nothing_trimmed, trimmed_so, trim_failed}
use Rattle.rssd_core.proofs.StoreLaws.{keeps_trans}
use Rattle.rssd_core.proofs.whole.FtlDevice.trim.Goals as goal

pub returns-in_err-check-clause-holds : goal.returns-in_err-check-clause-holds
returns-in_err-check-clause-holds g c = device_stays g.C.Scheme.meaning c.self.view_is c.check.ensures.stands c.self.invariant

pub returns-then-is_spent-clause-holds : goal.returns-then-is_spent-clause-holds
returns-then-is_spent-clause-holds g c = device_stays g.C.Scheme.meaning c.self.view_is c.check.ensures.stands c.self.invariant

pub returns-then-not-holds_bytes-clause-holds : goal.returns-then-not-holds_bytes-clause-holds
returns-then-not-holds_bytes-clause-holds g c = device_stays g.C.Scheme.meaning c.self.view_is c.check.ensures.stands c.self.invariant

pub returns-then-not-holds_bytes-clause-trimmed : goal.returns-then-not-holds_bytes-clause-trimmed
returns-then-not-holds_bytes-clause-trimmed g c =
    nothing_trimmed g.C.Scheme.meaning (record { is = c.self.view_is; stands = c.check.ensures.stands; running = c.in_ok-check.ensures.running })
    (not_spent c.self.inside.store.cells.seq c.is_spent.ensures c.if-is_spent.false) c.check.ensures.few_moved c.in_ok-check.ensures.within
    (sym c.holds_bytes.ensures ∙ c.if-not-holds_bytes.true)

pub returns-clause-holds : goal.returns-clause-holds
returns-clause-holds g c =
    device_holds c.self.view_is c.self.inside.tallies (keeps_trans c.clear-ended.ensures.keeps c.settle.ensures.keeps) c.settle.ensures.stands c.settle.ensures.done

pub returns-in-Err-clause-holds : goal.returns-in-Err-clause-holds
returns-in-Err-clause-holds g c =
    device_holds c.self.view_is c.self.inside.tallies (keeps_trans c.clear-ended.ensures.keeps c.settle.ensures.keeps) c.settle.ensures.stands c.settle.ensures.done

pub returns-clause-trimmed : goal.returns-clause-trimmed
returns-clause-trimmed g c =
    let trim : Trimming g.C.Scheme.meaning c.args.self.now c.self.inside.reuse_max c.self.inside.tallies c.self.inside.store c.clear-ended.new.self c.settle.new.self
    c.args.sector c.clear-ended.result = record {
      call = record {
        run = record { is = c.self.view_is; stands = c.check.ensures.stands; running = c.in_ok-check.ensures.running };
        keeps = c.clear-ended.ensures.keeps;
        settles = c.settle.ensures.keeps;
        recycles = c.settle.ensures.recycles;
        halted = c.settle.ensures.halted;
        same = c.settle.ensures.same;
      };
      fresh = not_spent c.self.inside.store.cells.seq c.is_spent.ensures c.if-is_spent.false;
      few_moved = c.check.ensures.few_moved;
      within = c.in_ok-check.ensures.within;
      held = sym c.holds_bytes.ensures ∙ c.if-not-holds_bytes.false;
      ends = c.clear-ended.ensures.ends;
      stopped = c.clear-ended.ensures.stopped;
    } in
    trimmed_so trim c.in-Ok.is

pub returns-in-Err-clause-fault : goal.returns-in-Err-clause-fault
returns-in-Err-clause-fault g c =
    let trim : Trimming g.C.Scheme.meaning c.args.self.now c.self.inside.reuse_max c.self.inside.tallies c.self.inside.store c.clear-ended.new.self c.settle.new.self
    c.args.sector c.clear-ended.result = record {
      call = record {
        run = record { is = c.self.view_is; stands = c.check.ensures.stands; running = c.in_ok-check.ensures.running };
        keeps = c.clear-ended.ensures.keeps;
        settles = c.settle.ensures.keeps;
        recycles = c.settle.ensures.recycles;
        halted = c.settle.ensures.halted;
        same = c.settle.ensures.same;
      };
      fresh = not_spent c.self.inside.store.cells.seq c.is_spent.ensures c.if-is_spent.false;
      few_moved = c.check.ensures.few_moved;
      within = c.in_ok-check.ensures.within;
      held = sym c.holds_bytes.ensures ∙ c.if-not-holds_bytes.false;
      ends = c.clear-ended.ensures.ends;
      stopped = c.clear-ended.ensures.stopped;
    } in
    λ failed. trim_failed trim c.in-Err.field-0 c.in-Err.is
