-- One more option was answered.
use Rattle.std.proofs.Common.{subst}
use Rattle.rssd_disk.specs.declared.handshake.Next.{Next}
use Rattle.rssd_disk.specs.Handshakes.{AnswersOption, none, more}
use Rattle.rssd_disk.proofs.handshake.answer_options.Goals as goal

pub loop-answered-init : goal.loop-answered-init
loop-answered-init g c = none

pub loop-answered-preserved : goal.loop-answered-preserved
loop-answered-preserved g c =
    more c.loop-answered.invariant (subst (λ (next : Next). AnswersOption c.args.size c.args.flags next (g.I.Source.log c.loop-answered.from) (g.I.Source.log c.take_option.new.from)
    (g.O.Sink.log c.loop-answered.to) (g.O.Sink.log c.take_option.new.to))
    c.in-Another.is c.in_ok-take_option.ensures.answered)
