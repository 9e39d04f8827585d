-- Reads leave what the pages before told.
use Rattle.std.proofs.Common.{◌∙◌}
use Rattle.std.proofs.lemmas.Result.{err_from_is_err_and}
use Rattle.spare_die.proofs.Telling.{told_read, reads_trans, cause_after, inside_read, inside_back}
use Rattle.spare_die.proofs.opening.read_table.Goals as goal

pub read_entry-requires-clause-told : goal.read_entry-requires-clause-told
read_entry-requires-clause-told g c = told_read (inside_read c.loop-page.invariant.reads) c.loop-page.invariant.told

pub returns-in_err-read_entry-clause-cause : goal.returns-in_err-read_entry-clause-cause
returns-in_err-read_entry-clause-cause g c =
    let exit = err_from_is_err_and c.from_residual.result c.from_residual.ensures.1 in
    rw (exit.1, exit.2)
    (cause_after (g.D.WornDie.state c.args.die.now) (g.D.WornDie.state c.loop-page.die)
    (g.D.WornDie.state c.read_entry.new.die) c.args.logical c.in_err-read_entry.field-0.0 c.loop-page.invariant.reads c.in_err-read_entry.ensures.cause)

pub loop-page-preserved : goal.loop-page-preserved
loop-page-preserved g c = record {
  told = told_read (inside_back c.loop-page.invariant.reads) c.in_ok-read_entry.ensures.told;
  reads = reads_trans c.loop-page.invariant.reads c.read_entry.ensures.only_reads;
  row = c.read_entry.auto.row ∙ c.loop-page.invariant.row;
}
