-- Each cause has its status.
use Rattle.rssd_lab.proofs.top.stopped.Goals as goal

pub returns-in-Lines : goal.returns-in-Lines
returns-in-Lines g c = rw c.in-Lines.is c.ended.ensures

pub returns-in-NotPlayed : goal.returns-in-NotPlayed
returns-in-NotPlayed g c = rw c.in-NotPlayed.is (c.refuse_line.ensures.status, c.refuse_line.ensures.line)
