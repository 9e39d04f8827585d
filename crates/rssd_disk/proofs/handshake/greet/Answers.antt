-- The options follow the greeting and the flags.
use Rattle.std.proofs.Common.{ℕ, List, [], ◌∷◌, subst}
use Rattle.std.proofs.lemmas.Result.{IfErr-weaker}
use Rattle.rssd_io.specs.Event.{Event}
use Rattle.rssd_io.specs.Pieces.{Gives}
use Rattle.rssd_disk.specs.Handshakes.{Greets, EndsOn, EndsHandshake, at_option}
use Rattle.rssd_disk.proofs.handshake.greet.Goals as goal

pub returns-clause-ends : goal.returns-clause-ends
returns-clause-ends g c =
    let from : List Event = g.I.Source.log c.args.from.now in
    let taken : List Event = g.I.Source.log c.take_flags.new.from in
    let left : List Event = g.I.Source.log c.answer_options.new.from in
    let to : List Event = g.O.Sink.log c.args.to.now in
    let greeted : List Event = g.O.Sink.log c.give.new.to in
    let given : List Event = g.O.Sink.log c.answer_options.new.to in
    let greets : Greets c.in_ok-flags.flags from taken to greeted = record {
      gave = subst (λ (l : List ℕ). Gives (l ∷ []) to greeted) c.greeting.ensures c.in_ok-give.ensures.gave;
      taken = c.in_ok-flags.ensures.taken;
      known = c.in_ok-flags.ensures.known;
    } in
    IfErr-weaker c.answer_options.result (λ ended. EndsOn c.args.size c.in_ok-flags.flags ended taken left greeted given) (λ ended. EndsHandshake c.args.size ended from left to given)
    (λ ended ends. at_option greets ends)
    c.answer_options.ensures.ends
