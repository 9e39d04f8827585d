-- Each row begins with a charged cell or with an uncharged one.
use Rattle.wom_code.proofs.TestLemmas.{every_row_iff}
use Rattle.wom_code.proofs.laws.all_rows_are_tried.Goals as goal

pub returns : goal.returns
returns c = every_row_iff
