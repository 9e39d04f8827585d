-- A give failed behind those that did not.
use Rattle.std.proofs.Common.{◌∷◌, take, map}
use Rattle.rssd_io.specs.Pieces.{all_given}
use Rattle.rssd_io.proofs.Logs.{gave_failed}
use Rattle.rssd_io.proofs.Pieces.{on_err}
use Rattle.lab_tables.proofs.tables.give_rows.Goals as goal

pub returns-in_err-give-2-clause-fault : goal.returns-in_err-give-2-clause-fault
returns-in_err-give-2-clause-fault g c =
    let log = g.O.Sink.log in
    on_err c.from_residual-in_err-give-2.result _ (gave_failed (log c.args.out.now) (log c.loop-row.out) (log c.give-in-loop-row.new.self)
    (all_given (c.args.head.now ∷ map (λ row. row.items) (take c.loop-row.row-index c.args.rows.now))) _ c.in_err-give-2.ensures.log.0 c.loop-row.invariant c.in_err-give-2.ensures.log.1)
