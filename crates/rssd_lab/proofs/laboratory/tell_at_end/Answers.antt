-- The row, the kinds and the blocks came one after another, and then the flush.
use Rattle.std.proofs.Common.{subst}
use Rattle.cell_die.specs.DieState.{DieState}
use Rattle.count_die.specs.Covers.{Covers}
use Rattle.rssd_io.proofs.Logs.{came_behind}
use Rattle.rssd_io.proofs.Pieces.{on_err}
use Rattle.lab_stream.proofs.Takes.{failed_later}
use Rattle.rssd_lab.proofs.Told.{tells_ok, tells_err}
use Rattle.rssd_lab.proofs.laboratory.tell_at_end.Goals as goal

pub returns-in_err-give_kinds-clause-fault : goal.returns-in_err-give_kinds-clause-fault
returns-in_err-give_kinds-clause-fault g c =
    let log = g.O.Sink.log in
    on_err c.from_residual-in_err-give_kinds.result _
    (failed_later (log c.args.out.now) (log c.give_last_row.new.out) (log c.give_kinds.new.out) _ c.in_ok-give_last_row.ensures.done c.in_err-give_kinds.ensures.fault)

pub returns-in_err-give_blocks-clause-fault : goal.returns-in_err-give_blocks-clause-fault
returns-in_err-give_blocks-clause-fault g c =
    let log = g.O.Sink.log in
    on_err c.from_residual-in_err-give_blocks.result _
    (failed_later (log c.args.out.now) (log c.give_kinds.new.out) (log c.give_blocks.new.out) _
    (came_behind (log c.args.out.now) (log c.give_last_row.new.out)
    (log c.give_kinds.new.out) _ _ c.in_ok-give_last_row.ensures.done c.in_ok-give_kinds.ensures.done) c.in_err-give_blocks.ensures.fault)

pub returns-clause-done : goal.returns-clause-done
returns-clause-done g c =
    let log = g.O.Sink.log in
    tells_ok c.args.telling (g.F.Device.device c.args.ftl.now) c.args.score.now c.tally.result.now (log c.args.out.now) (log c.give_last_row.new.out) (log c.give_kinds.new.out)
    (log c.give_blocks.new.out)
    c.in_ok-give_last_row.ensures.done c.in_ok-give_kinds.ensures.done c.in_ok-give_blocks.ensures.done c.flush.result (log c.flush.new.self)
    (subst (λ (state : DieState). Covers state.shape c.tally.result.now) c.die.ensures c.tally.ensures.covers) c.flush.ensures.log

pub returns-clause-fault : goal.returns-clause-fault
returns-clause-fault g c =
    let log = g.O.Sink.log in
    tells_err c.args.telling (g.F.Device.device c.args.ftl.now) c.args.score.now c.tally.result.now (log c.args.out.now) (log c.give_last_row.new.out) (log c.give_kinds.new.out)
    (log c.give_blocks.new.out)
    c.in_ok-give_last_row.ensures.done c.in_ok-give_kinds.ensures.done c.in_ok-give_blocks.ensures.done c.flush.result (log c.flush.new.self) c.flush.ensures.log
