-- the requests so far were answered
use Rattle.std.proofs.Common.{◌-◌, ◌^◌}
use Rattle.rssd_disk.specs.Sessions.{AnswersAll}
use Rattle.rssd_disk.proofs.requests.answer_all.Given as goal

abbrev pub invariant-loop-answered : goal.invariant-loop-answered
invariant-loop-answered g l = record {
  held : g.K.Disk.held l.disk;
  answered : AnswersAll g.K.Disk.answers g.K.Disk.power l.fn.disk (g.I.Source.log l.fn.from) (g.O.Sink.log l.fn.to) l.answered l.disk (g.I.Source.log l.from) (g.O.Sink.log l.to);
}

abbrev pub decreases-loop-answered : goal.decreases-loop-answered
decreases-loop-answered g l = 2 ^ 64 - 1 - l.answered
