use Rattle.rssd_queue.proofs.Orders.{sectors_in_order}
use Rattle.rssd_queue.proofs.laws.each_sector_keeps_its_order.Goals as goal

pub returns : goal.returns
returns c = sectors_in_order
