-- the options so far were answered
use Rattle.std.proofs.Common.{◌-◌, ◌^◌}
use Rattle.rssd_disk.specs.Handshakes.{AnswersOptions}
use Rattle.rssd_disk.proofs.handshake.answer_options.Given as goal

abbrev pub invariant-loop-answered : goal.invariant-loop-answered
invariant-loop-answered g l = AnswersOptions l.size l.flags (g.I.Source.log l.fn.from) (g.O.Sink.log l.fn.to) l.answered (g.I.Source.log l.from) (g.O.Sink.log l.to)

abbrev pub decreases-loop-answered : goal.decreases-loop-answered
decreases-loop-answered g l = 2 ^ 64 - 1 - l.answered
