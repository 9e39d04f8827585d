-- By induction on the lines.
use Rattle.lab_lines.proofs.FirstLines.{first_lines}
use Rattle.lab_lines.proofs.law.drawn_lines_are_those_of_their_seed.Goals as goal

pub returns : goal.returns
returns c = first_lines
