-- Each line draws fewer than 2^8 numbers, and a script has no more lines than bytes.
use Rattle.rssd_run.proofs.Spending.{replays_never_spend}
use Rattle.rssd_run.proofs.run.replay.replays_never_spend_the_record_numbers.Goals as goal

pub returns : goal.returns
returns c = replays_never_spend
