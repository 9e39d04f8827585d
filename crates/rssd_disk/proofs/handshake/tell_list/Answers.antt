-- The name is given, and the end behind it.
use Rattle.std.proofs.Common.{◌≡◌, ℕ, List, [], ◌∷◌, refl, subst}
use Rattle.std.proofs.lemmas.Result.{on_ok_weaker}
use Rattle.nbd_wire.specs.declared.answer.Answer.TheVariants.{Named, Acknowledged}
use Rattle.nbd_wire.specs.declared.option.OptionKind.TheVariants.{ListExports}
use Rattle.nbd_wire.specs.Numbers.{word}
use Rattle.rssd_io.specs.Event.{Event}
use Rattle.rssd_io.specs.Pieces.{Gives, StopsAt}
use Rattle.rssd_disk.specs.Handshakes.{said}
use Rattle.rssd_disk.proofs.Given.{gives_trans, stops_front, stops_behind, if_err, if_err_map}
use Rattle.rssd_disk.proofs.handshake.tell_list.Goals as goal

no_name : 0 ∷ 0 ∷ 0 ∷ 0 ∷ [] ≡ word 0
unfolding word
no_name = refl

pub returns-in_err-answer-clause-stops : goal.returns-in_err-answer-clause-stops
returns-in_err-answer-clause-stops g c =
    let stops : StopsAt (said ListExports Named (word 0)) (g.O.Sink.log c.args.to.now) (g.O.Sink.log c.answer.new.to)
    = subst (λ (l : List ℕ). StopsAt (said ListExports Named l) (g.O.Sink.log c.args.to.now) (g.O.Sink.log c.answer.new.to)) no_name c.in_err-answer.ensures.stops in
    if_err c.from_residual.result (stops_front (said ListExports Named (word 0)) (said ListExports Acknowledged []) stops)

pub returns : goal.returns
returns g c =
    let old : List Event = g.O.Sink.log c.args.to.now in
    let mid : List Event = g.O.Sink.log c.answer.new.to in
    let new : List Event = g.O.Sink.log c.answer-2.new.to in
    let name : List (List ℕ) = said ListExports Named (word 0) in
    let end : List (List ℕ) = said ListExports Acknowledged [] in
    let gave : Gives name old mid = subst (λ (l : List ℕ). Gives (said ListExports Named l) old mid) no_name c.in_ok-answer.ensures.gave in
    record {
      gave = on_ok_weaker c.answer-2.result (λ (s : Gives end mid new). gives_trans old mid new name end gave s) c.answer-2.ensures.gave;
      fault = c.answer-2.ensures.fault;
      stops = if_err_map c.answer-2.result (λ (s : StopsAt end mid new). stops_behind name end gave s) c.answer-2.ensures.stops;
    }
