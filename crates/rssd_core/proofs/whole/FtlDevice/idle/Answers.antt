-- The moves and the recycling that follows are those of the contract, also where a call of the die failed.
use Rattle.std.proofs.Common.{sym, ◌∙◌}
use Rattle.rssd_core.proofs.DeviceLaws.{Idling, device_holds, device_stays, idled_so, idle_failed}
use Rattle.rssd_core.proofs.StoreLaws.{keeps_trans}
use Rattle.rssd_core.proofs.whole.FtlDevice.idle.Goals as goal

pub returns-then-stopped-clause-holds : goal.returns-then-stopped-clause-holds
returns-then-stopped-clause-holds g c = device_stays g.C.Scheme.meaning c.self.view_is c.stopped.ensures.stands c.self.invariant

pub returns-clause-holds : goal.returns-clause-holds
returns-clause-holds g c =
    device_holds c.self.view_is c.self.inside.tallies (keeps_trans c.move_records-moves.ensures.keeps c.settle.ensures.keeps) c.settle.ensures.stands c.settle.ensures.done

pub returns-in-Some-clause-holds : goal.returns-in-Some-clause-holds
returns-in-Some-clause-holds g c =
    device_holds c.self.view_is c.self.inside.tallies (keeps_trans c.move_records-moves.ensures.keeps c.settle.ensures.keeps) c.settle.ensures.stands c.settle.ensures.done

pub returns-clause-idled : goal.returns-clause-idled
returns-clause-idled g c =
    let moves : Idling g.C.Scheme.meaning c.args.self.now c.self.inside.reuse_max c.self.inside.tallies c.self.inside.store c.move_records-moves.new.self c.settle.new.self
    c.args.n c.move_records-moves.result.count c.move_records-moves.result.fault = record {
      call = record {
        run = record { is = c.self.view_is; stands = c.stopped.ensures.stands; running = sym c.stopped.ensures.stopped ∙ c.if-stopped.false };
        keeps = c.move_records-moves.ensures.keeps;
        settles = c.settle.ensures.keeps;
        recycles = c.settle.ensures.recycles;
        halted = c.settle.ensures.halted;
        same = c.settle.ensures.same;
      };
      ends = c.move_records-moves.ensures.ends;
      tally = c.move_records-moves.ensures.tally;
      stopped = c.move_records-moves.ensures.stopped;
    } in
    idled_so moves c.in-None.is

pub returns-in-Some-clause-fault : goal.returns-in-Some-clause-fault
returns-in-Some-clause-fault g c =
    let moves : Idling g.C.Scheme.meaning c.args.self.now c.self.inside.reuse_max c.self.inside.tallies c.self.inside.store c.move_records-moves.new.self c.settle.new.self
    c.args.n c.move_records-moves.result.count c.move_records-moves.result.fault = record {
      call = record {
        run = record { is = c.self.view_is; stands = c.stopped.ensures.stands; running = sym c.stopped.ensures.stopped ∙ c.if-stopped.false };
        keeps = c.move_records-moves.ensures.keeps;
        settles = c.settle.ensures.keeps;
        recycles = c.settle.ensures.recycles;
        halted = c.settle.ensures.halted;
        same = c.settle.ensures.same;
      };
      ends = c.move_records-moves.ensures.ends;
      tally = c.move_records-moves.ensures.tally;
      stopped = c.move_records-moves.ensures.stopped;
    } in
    λ failed. idle_failed moves c.in-Some.field-0 c.in-Some.is
