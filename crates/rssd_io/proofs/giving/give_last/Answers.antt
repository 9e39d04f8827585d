-- One piece, and then the flush.
use Rattle.std.proofs.Common.{[], ◌∷◌}
use Rattle.rssd_io.proofs.Pieces.{flush_done, flush_front, stops_one, on_err}
use Rattle.rssd_io.proofs.giving.give_last.Goals as goal

pub returns-in_err-give-clause-front : goal.returns-in_err-give-clause-front
returns-in_err-give-clause-front g c =
    let log = g.S.Sink.log in
    on_err c.from_residual.result _ (stops_one (log c.args.sink.now) (log c.give.new.self) c.args.piece.now c.in_err-give.ensures.log.0 c.in_err-give.ensures.log.1)

pub returns-clause-done : goal.returns-clause-done
returns-clause-done g c =
    let log = g.S.Sink.log in
    flush_done c.flush.result (log c.args.sink.now) (log c.give.new.self) (log c.flush.new.self) (c.args.piece.now ∷ []) c.in_ok-give.ensures.log c.flush.ensures.log

pub returns-clause-front : goal.returns-clause-front
returns-clause-front g c =
    let log = g.S.Sink.log in
    flush_front c.flush.result (log c.args.sink.now) (log c.give.new.self) (log c.flush.new.self) (c.args.piece.now ∷ []) c.in_ok-give.ensures.log c.flush.ensures.log
