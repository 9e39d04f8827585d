-- One more request was answered.
use Rattle.rssd_disk.specs.Sessions.{none, more}
use Rattle.rssd_disk.proofs.requests.answer_all.Goals as goal

pub loop-answered-init : goal.loop-answered-init
loop-answered-init g c = record { held = c.requires.held; answered = none }

pub loop-answered-preserved : goal.loop-answered-preserved
loop-answered-preserved g c = record { held = c.answer_one.ensures.held; answered = more c.loop-answered.invariant.answered c.in-Ok.ensures.answers }
