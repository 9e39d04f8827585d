-- A session is its handshake, and then its requests.
use Rattle.std.proofs.Common.{ℕ, refl, subst}
use Rattle.rssd_disk.specs.Handshakes.{Agrees, EndsHandshake, unmet, met}
use Rattle.rssd_disk.proofs.serving.serve.Goals as goal

pub returns-in-Ok-clause-session : goal.returns-in-Ok-clause-session
returns-in-Ok-clause-session g c =
    met (subst (λ (size : ℕ). Agrees size (g.I.Source.log c.args.from.now) (g.I.Source.log c.greet.new.from) (g.O.Sink.log c.args.to.now) (g.O.Sink.log c.greet.new.to)) c.size.ensures
    c.in-Ok.ensures.agrees)
    c.answer_all.ensures.answers

pub returns-in-Err-clause-session : goal.returns-in-Err-clause-session
returns-in-Err-clause-session g c =
    unmet (subst (λ (size : ℕ). EndsHandshake size c.in-Err.ended (g.I.Source.log c.args.from.now) (g.I.Source.log c.greet.new.from) (g.O.Sink.log c.args.to.now) (g.O.Sink.log c.greet.new.to))
    c.size.ensures c.in-Err.ensures.ends)
    refl
