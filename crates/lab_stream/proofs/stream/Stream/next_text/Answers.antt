-- Each turn the text gets what the piece has of it, and then the next piece comes.
use Rattle.std.proofs.Common.{◌≡◌, inr, ◌+◌, ◌<◌, ◌≤◌, Bool, length, sym, ap, ◌∙◌, subst, arith, length-append}
use Rattle.lab_lines.specs.declared.lines.LinesEnd.{LinesEnd}
use Rattle.lab_stream.specs.Streaming.{ahead_of, IsWhole, TakesPiece, StopsStream}
use Rattle.lab_stream.proofs.Takes.{takes_part, takes_piece, ends_input, failed_later}
use Rattle.lab_stream.proofs.stream.Stream.next_text.Goals as goal

pub loop-why-smaller : goal.loop-why-smaller
loop-why-smaller g c =
    let front = subst (λ (whole : Bool). IsWhole whole c.add.new.text.items c.add.new.self) c.in-Ok-false.field-0-test c.in-Ok-false.ensures.whole in
    let moves = c.in-Ok-false.ensures.moves in
    let text : length c.add.new.text.items ≡ length c.loop-why.text.items + length moves.part = ap length moves.more_is ∙ length-append c.loop-why.text.items moves.part in
    let ahead : length (ahead_of c.loop-why.self) ≡ length moves.part + length (ahead_of c.add.new.self) = ap length moves.order ∙ length-append moves.part (ahead_of c.add.new.self) in
    let none : length (ahead_of c.add.new.self) ≡ 0 = ap length front.1 in
    let some : 0 < length (ahead_of c.take.new.self) = c.in-Ok-true-take.ensures.takes.has_some c.in-Ok-true-take.field-0-test in
    let room : length c.add.new.text.items ≤ 1049 = c.in-Ok-false.ensures.room in
    omega (arith, text, ahead, none, some, room)

pub loop-why-preserved : goal.loop-why-preserved
loop-why-preserved g c =
    let log = g.S.Source.log in
    let front = subst (λ (whole : Bool). IsWhole whole c.add.new.text.items c.add.new.self) c.in-Ok-false.field-0-test c.in-Ok-false.ensures.whole in
    let part = takes_part log c.args.self.now c.loop-why.self c.add.new.self c.loop-why.text.items c.add.new.text.items c.loop-why.invariant.takes c.in-Ok-false.ensures.moves in
    record {
      takes = takes_piece log c.args.self.now c.add.new.self c.take.new.self c.add.new.text.items c.in-Ok-true-take.field-0 part front.1 c.in-Ok-true-take.ensures.takes;
      no_feed = front.0;
      room = c.in-Ok-false.ensures.room;
      lines = c.in-Ok-true-take.ensures.takes.lines ∙ c.in-Ok-false.ensures.moves.lines ∙ c.loop-why.invariant.lines;
    }

pub returns-in-Ok-false-take-clause-takes : goal.returns-in-Ok-false-take-clause-takes
returns-in-Ok-false-take-clause-takes g c =
    let log = g.S.Source.log in
    let front = subst (λ (whole : Bool). IsWhole whole c.add.new.text.items c.add.new.self) c.in-Ok-false.field-0-test c.in-Ok-false.ensures.whole in
    let part = takes_part log c.args.self.now c.loop-why.self c.add.new.self c.loop-why.text.items c.add.new.text.items c.loop-why.invariant.takes c.in-Ok-false.ensures.moves in
    takes_piece log c.args.self.now c.add.new.self c.take.new.self c.add.new.text.items c.in-Ok-false-take.field-0 part front.1 c.in-Ok-false-take.ensures.takes

pub returns-in-Ok-false-take-clause-has : goal.returns-in-Ok-false-take-clause-has
returns-in-Ok-false-take-clause-has g c =
    let log = g.S.Source.log in
    let front = subst (λ (whole : Bool). IsWhole whole c.add.new.text.items c.add.new.self) c.in-Ok-false.field-0-test c.in-Ok-false.ensures.whole in
    let piece = subst (λ (some : Bool). TakesPiece log c.add.new.self some c.take.new.self) c.in-Ok-false-take.field-0-test c.in-Ok-false-take.ensures.takes in
    let part = takes_part log c.args.self.now c.loop-why.self c.add.new.self c.loop-why.text.items c.add.new.text.items c.loop-why.invariant.takes c.in-Ok-false.ensures.moves in
    inr (ends_input log c.args.self.now c.add.new.self c.take.new.self c.add.new.text.items part front.0 piece)

pub returns-in-Err-take-clause-stops : goal.returns-in-Err-take-clause-stops
returns-in-Err-take-clause-stops g c =
    let log = g.S.Source.log in
    let part = takes_part log c.args.self.now c.loop-why.self c.add.new.self c.loop-why.text.items c.add.new.text.items c.loop-why.invariant.takes c.in-Ok-false.ensures.moves in
    let failed = failed_later (log c.args.self.now.source) (log c.add.new.self.source) (log c.take.new.self.source) part.events part.came c.in-Err-take.ensures.fault in
    subst (λ (why : LinesEnd). StopsStream log c.args.self.now why c.take.new.self) (sym c.in-Err-take.ensures.why) failed
