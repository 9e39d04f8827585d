-- One read and then another.
use Rattle.cell_die.proofs.Sequences.{ok_then}
use Rattle.page_codec.proofs.read.read_pair.Goals as goal

pub returns-clause-passed : goal.returns-clause-passed
returns-clause-passed g c = ok_then 0 1 _ _ _ c.read_page-2.result c.in_ok-read_page.ensures.passed c.read_page-2.ensures.passed
