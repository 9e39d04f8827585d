use Rattle.rssd_queue.proofs.Orders.{answered_once}
use Rattle.rssd_queue.proofs.laws.each_command_is_answered_once.Goals as goal

pub returns : goal.returns
returns c = answered_once
