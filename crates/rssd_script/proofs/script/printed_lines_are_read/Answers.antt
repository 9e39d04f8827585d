-- The printed text is whole lines with nothing behind them.
use Rattle.rssd_script.proofs.Unique.{printed}
use Rattle.rssd_script.proofs.script.printed_lines_are_read.Goals as goal

pub returns : goal.returns
returns c = printed
