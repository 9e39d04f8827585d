-- The rows come one by one; a give failed behind those that did not.
use Rattle.std.proofs.Common.{ℕ, List, [], ◌∷◌, ◌++◌, sym, ap, ◌∙◌, subst, ◌≡◌}
use Rattle.count_die.specs.Tallies.{counted_of}
use Rattle.rssd_io.specs.Event.{Event, moved}
use Rattle.rssd_io.specs.Pieces.{all_given, Gives}
use Rattle.rssd_io.proofs.Logs.{gave_failed}
use Rattle.rssd_io.proofs.Pieces.{on_err}
use Rattle.lab_tables.specs.Tables.{block_head, block_table}
use Rattle.lab_tables.proofs.Blocks.{no_rows, given_row}
use Rattle.lab_tables.proofs.tables.give_blocks.Goals as goal

pub loop-block-init : goal.loop-block-init
loop-block-init g c =
    let log = g.O.Sink.log in
    subst (λ (rows : List (List ℕ)). Gives (block_head ∷ rows) (log c.args.out.now) (log c.give.new.self)) (sym (no_rows (counted_of c.args.tally.now))) c.in_ok-give.ensures.log

pub loop-block-preserved : goal.loop-block-preserved
loop-block-preserved g c =
    let log = g.O.Sink.log in
    let row = c.as_slice.ensures.value ∙ c.block_row.ensures in
    let came = c.in_ok-give-2.ensures.log ∙ ap (λ (piece : List ℕ). log c.loop-block.out ++ moved piece ∷ []) row in
    given_row (log c.args.out.now) (log c.loop-block.out) (log c.give-in-loop-block.new.self) (counted_of c.args.tally.now) c.loop-block.block c.loop-block.invariant came

pub returns-in_err-give-2-clause-fault : goal.returns-in_err-give-2-clause-fault
returns-in_err-give-2-clause-fault g c =
    let log = g.O.Sink.log in
    on_err c.from_residual-in_err-give-2.result _ (gave_failed (log c.args.out.now) (log c.loop-block.out) (log c.give-in-loop-block.new.self)
    (all_given (block_table (counted_of c.args.tally.now) c.loop-block.block)) _ c.in_err-give-2.ensures.log.0 c.loop-block.invariant c.in_err-give-2.ensures.log.1)
