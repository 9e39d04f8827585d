-- By induction on the lines.
use Rattle.lab_stream.proofs.Spelled.{streamed}
use Rattle.lab_stream.proofs.law.lines_of_a_stream_are_spelled.Goals as goal

pub returns : goal.returns
returns g c = streamed g.S.Source.log
