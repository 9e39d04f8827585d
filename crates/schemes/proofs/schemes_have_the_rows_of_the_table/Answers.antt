-- Each row by itself.
use Rattle.schemes.proofs.Rows.{named_row}
use Rattle.schemes.proofs.schemes_have_the_rows_of_the_table.Goals as goal

pub returns : goal.returns
returns c = named_row
