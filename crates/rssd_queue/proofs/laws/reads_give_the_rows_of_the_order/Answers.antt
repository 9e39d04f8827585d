use Rattle.rssd_queue.proofs.Rows.{reads_in_order}
use Rattle.rssd_queue.proofs.laws.reads_give_the_rows_of_the_order.Goals as goal

pub returns : goal.returns
returns c = reads_in_order
