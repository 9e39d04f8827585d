use Rattle.rssd_queue.proofs.InTime.{served_in_time}
use Rattle.rssd_queue.proofs.laws.every_command_is_served_in_time.Goals as goal

pub returns : goal.returns
returns c = served_in_time
