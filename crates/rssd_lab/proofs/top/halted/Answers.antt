-- That no block is spare is told.
use Rattle.std.proofs.Common.{refl}
use Rattle.rssd_lab.proofs.top.halted.Goals as goal

pub returns-in-NoSpare : goal.returns-in-NoSpare
returns-in-NoSpare g c = rw c.in-NoSpare.is (refl, c.refuse.ensures)
