-- A bad line is told.
use Rattle.rssd_lab.proofs.top.ended.Goals as goal

pub returns-in-BadLine : goal.returns-in-BadLine
returns-in-BadLine g c = rw c.in-BadLine.is (c.refuse_line.ensures.status, c.refuse_line.ensures.line)
