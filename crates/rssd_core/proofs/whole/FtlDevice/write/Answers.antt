-- Each outcome of the put is one of the contract's.
use Rattle.std.proofs.Common.{rules}
use Rattle.rssd_core.proofs.DeviceLaws.{Writing, device_holds, device_stays, not_spent, wrote_so, write_failed}
use Rattle.rssd_core.proofs.StoreLaws.{keeps_trans}
use Rattle.rssd_core.proofs.whole.FtlDevice.write.Goals as goal

pub returns-in_err-check-clause-holds : goal.returns-in_err-check-clause-holds
returns-in_err-check-clause-holds g c = device_stays g.C.Scheme.meaning c.self.view_is c.check.ensures.stands c.self.invariant

pub returns-then-is_spent-clause-holds : goal.returns-then-is_spent-clause-holds
returns-then-is_spent-clause-holds g c = device_stays g.C.Scheme.meaning c.self.view_is c.check.ensures.stands c.self.invariant

pub returns-in-Ok-clause-holds : goal.returns-in-Ok-clause-holds
returns-in-Ok-clause-holds g c =
    device_holds c.self.view_is c.counted-self-inside.result (keeps_trans c.place-ended.ensures.keeps c.settle.ensures.keeps) c.settle.ensures.stands c.settle.ensures.done

pub returns-in-Err-clause-holds : goal.returns-in-Err-clause-holds
returns-in-Err-clause-holds g c =
    device_holds c.self.view_is c.self.inside.tallies (keeps_trans c.place-ended.ensures.keeps c.settle.ensures.keeps) c.settle.ensures.stands c.settle.ensures.done

pub returns-in-Ok-clause-wrote : goal.returns-in-Ok-clause-wrote
returns-in-Ok-clause-wrote g c =
    let write : Writing g.C.Scheme.meaning c.args.self.now c.self.inside.reuse_max c.self.inside.tallies c.self.inside.store c.place-ended.new.self c.settle.new.self
    c.args.sector c.args.bytes.now c.place-ended.result = record {
      call = record {
        run = record { is = c.self.view_is; stands = c.check.ensures.stands; running = c.in_ok-check.ensures.running };
        keeps = c.place-ended.ensures.keeps;
        settles = c.settle.ensures.keeps;
        recycles = c.settle.ensures.recycles;
        halted = c.settle.ensures.halted;
        same = c.settle.ensures.same;
      };
      fresh = not_spent c.self.inside.store.cells.seq c.is_spent.ensures c.if-is_spent.false;
      few_moved = c.check.ensures.few_moved;
      few_first = search rules;
      few_second = search rules;
      few_declined = search rules;
      ends = c.place-ended.ensures.ends;
      stopped = c.place-ended.ensures.stopped;
    } in
    wrote_so write c.in-Ok.is
    (record { first = c.counted-self-inside.ensures.first; second = c.counted-self-inside.ensures.second; declined = c.counted-self-inside.ensures.declined })

pub returns-in-Err-clause-fault : goal.returns-in-Err-clause-fault
returns-in-Err-clause-fault g c =
    let write : Writing g.C.Scheme.meaning c.args.self.now c.self.inside.reuse_max c.self.inside.tallies c.self.inside.store c.place-ended.new.self c.settle.new.self
    c.args.sector c.args.bytes.now c.place-ended.result = record {
      call = record {
        run = record { is = c.self.view_is; stands = c.check.ensures.stands; running = c.in_ok-check.ensures.running };
        keeps = c.place-ended.ensures.keeps;
        settles = c.settle.ensures.keeps;
        recycles = c.settle.ensures.recycles;
        halted = c.settle.ensures.halted;
        same = c.settle.ensures.same;
      };
      fresh = not_spent c.self.inside.store.cells.seq c.is_spent.ensures c.if-is_spent.false;
      few_moved = c.check.ensures.few_moved;
      few_first = search rules;
      few_second = search rules;
      few_declined = search rules;
      ends = c.place-ended.ensures.ends;
      stopped = c.place-ended.ensures.stopped;
    } in
    λ failed. write_failed write c.in-Err.field-0 c.in-Err.is
