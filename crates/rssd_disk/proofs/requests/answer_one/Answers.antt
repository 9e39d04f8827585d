-- The request that was taken is the one that is asked and replied to.
use Rattle.std.proofs.Common.{rules, ◌≡◌, ℕ, ◌+◌, ◌-◌, true, false, List, [], ◌∷◌, ◌++◌, ap, refl, ◌∙◌, arith}
use Rattle.std.proofs.lemmas.Result.{on_ok_weaker}
use Rattle.rssd_io.specs.Event.{moved}
use Rattle.rssd_disk.specs.Rules.{data_length}
use Rattle.rssd_disk.specs.Sessions.{Asks, reply_to}
use Rattle.rssd_disk.proofs.Asked.{asks_of, put_mid_part, ends_write, power_found}
use Rattle.rssd_disk.proofs.requests.answer_one.Goals as goal

pub returns-then-not-has_power-clause-ends : goal.returns-then-not-has_power-clause-ends
returns-then-not-has_power-clause-ends g c =
    let asks : Asks g.K.Disk.answers c.args.disk.now c.answer-error.new.self (g.I.Source.log c.args.from.now) (g.I.Source.log c.take_behind.new.from)
    = asks_of g.K.Disk.answers c.args.disk.now c.answer-error.new.self c.data_length-count.result c.take_behind.new.room c.answer-error.new.bytes c.answer-error.result
    c.in_ok-request.ensures.spelled c.in_ok-request.ensures.taken c.in_ok-take_behind.ensures.brings
    c.data_length-count.ensures.length c.data_length-count.ensures.few (c.take_behind.auto.room ∙ c.requires.room) c.answer-error.auto.bytes c.answer-error.ensures.answered in
    let gone : c.has_power.result ≡ false = search rules in
    (asks, refl, power_found (g.K.Disk.power c.answer-error.new.self) c.has_power.result false c.has_power.ensures gone)

pub returns : goal.returns
unfolding asks_of
returns g c =
    let room : List ℕ = c.take_behind.new.room in
    let count : ℕ = c.data_length-count.result in
    let after : List ℕ = c.answer-error.new.bytes in
    let asks : Asks g.K.Disk.answers c.args.disk.now c.answer-error.new.self (g.I.Source.log c.args.from.now) (g.I.Source.log c.take_behind.new.from)
    = asks_of g.K.Disk.answers c.args.disk.now c.answer-error.new.self count room after c.answer-error.result c.in_ok-request.ensures.spelled c.in_ok-request.ensures.taken
    c.in_ok-take_behind.ensures.brings
    c.data_length-count.ensures.length c.data_length-count.ensures.few (c.take_behind.auto.room ∙ c.requires.room) c.answer-error.auto.bytes c.answer-error.ensures.answered in
    let there : c.has_power.result ≡ true = search rules in
    let told = put_mid_part (16 + count - 16) (data_length c.in_ok-request.request) room after (omega (arith, c.take_behind.auto.room, c.requires.room)) asks.long in
    record {
      held = c.answer-error.ensures.held;
      answers = on_ok_weaker c.give_reply.result (λ given. record {
        powered = power_found (g.K.Disk.power c.answer-error.new.self) c.has_power.result true c.has_power.ensures there;
        asks = asks;
        replied = given ∙ ap (λ (l : List ℕ). g.O.Sink.log c.args.to.now ++ moved (reply_to c.in_ok-request.request c.answer-error.result l) ∷ []) told;
      }) c.give_reply.ensures.given;
      ends = ends_write g.K.Disk.answers g.K.Disk.power c.args.disk.now c.answer-error.new.self (g.I.Source.log c.args.from.now) (g.I.Source.log c.take_behind.new.from)
          (g.O.Sink.log c.args.to.now) (g.O.Sink.log c.give_reply.new.to) c.give_reply.result asks c.give_reply.ensures.failed;
    }
