-- What waited was given, and then the piece, which is longer than all the room.
use Rattle.std.proofs.Common.{ℕ, List, sym, ap, subst, ◌∙◌, [], ◌≡◌}
use Rattle.std.specs.Prelude.{OnOk}
use Rattle.rssd_io.specs.Buffer.{HandsThrough, HandsFront}
use Rattle.rssd_io.proofs.Pieces.{on_err}
use Rattle.rssd_io.proofs.Gathering.{given_behind, front_before, front_behind, unchanged}
use Rattle.rssd_io.proofs.buffer.BufSink.gather.Goals as goal

pub returns-clause-passes : goal.returns-clause-passes
returns-clause-passes g c =
    let log = g.S.Sink.log in
    let first = unchanged c.try_extend_from_slice.result c.try_extend_from_slice.new.self c.args.self.now.waiting c.try_extend_from_slice.ensures.err c.if-is_ok.ensures.value in
    let waited : c.try_extend_from_slice.new.self.items ≡ c.args.self.now.waiting.items = ap (λ waits. waits.items) first in
    let passes = subst (λ (waits : List ℕ). HandsThrough (log c.args.self.now.inner) (log c.hand_on.new.self.inner) waits [] []) waited c.in_ok-hand_on.ensures.passes in
    let same = unchanged c.try_extend_from_slice-2.result c.try_extend_from_slice-2.new.self c.hand_on.new.self.waiting c.try_extend_from_slice-2.ensures.err c.if-is_ok-2.ensures.value in
    let none : c.try_extend_from_slice-2.new.self.items ≡ [] = ap (λ waits. waits.items) same ∙ c.hand_on.ensures.none in
    subst (λ (waits : List ℕ). OnOk c.give.result (HandsThrough (log c.args.self.now.inner) (log c.give.new.self) c.args.self.now.waiting.items waits c.args.piece.now)) (sym none)
    (given_behind c.give.result (log c.args.self.now.inner) (log c.hand_on.new.self.inner) (log c.give.new.self) c.args.self.now.waiting.items c.args.piece.now passes c.give.ensures.log)

pub returns-in_err-hand_on-clause-front : goal.returns-in_err-hand_on-clause-front
returns-in_err-hand_on-clause-front g c =
    let log = g.S.Sink.log in
    let first = unchanged c.try_extend_from_slice.result c.try_extend_from_slice.new.self c.args.self.now.waiting c.try_extend_from_slice.ensures.err c.if-is_ok.ensures.value in
    let waited : c.try_extend_from_slice.new.self.items ≡ c.args.self.now.waiting.items = ap (λ waits. waits.items) first in
    let front = subst (λ (waits : List ℕ). HandsFront (log c.args.self.now.inner) (log c.hand_on.new.self.inner) waits) waited c.in_err-hand_on.ensures.front in
    on_err c.from_residual.result _ (front_before (log c.args.self.now.inner) (log c.hand_on.new.self.inner) c.args.self.now.waiting.items c.args.piece.now front)

pub returns-clause-front : goal.returns-clause-front
returns-clause-front g c =
    let log = g.S.Sink.log in
    let first = unchanged c.try_extend_from_slice.result c.try_extend_from_slice.new.self c.args.self.now.waiting c.try_extend_from_slice.ensures.err c.if-is_ok.ensures.value in
    let waited : c.try_extend_from_slice.new.self.items ≡ c.args.self.now.waiting.items = ap (λ waits. waits.items) first in
    let passes = subst (λ (waits : List ℕ). HandsThrough (log c.args.self.now.inner) (log c.hand_on.new.self.inner) waits [] []) waited c.in_ok-hand_on.ensures.passes in
    front_behind c.give.result (log c.args.self.now.inner) (log c.hand_on.new.self.inner) (log c.give.new.self) c.args.self.now.waiting.items c.args.piece.now passes c.give.ensures.log
