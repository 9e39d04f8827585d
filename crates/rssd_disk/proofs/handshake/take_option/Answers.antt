-- The option that was taken is the one that is answered.
use Rattle.std.proofs.Common.{◌≡◌, ◌≤◌, ◌<◌, ℕ, List, length, take, ◌∙◌, arith}
use Rattle.std.proofs.lemmas.List.{length-take}
use Rattle.nbd_wire.specs.declared.option.OptionHead.{OptionHead}
use Rattle.rssd_io.specs.Event.{Event}
use Rattle.rssd_disk.specs.Handshakes.{TakesOption}
use Rattle.rssd_disk.proofs.Handshakes.{takes_option, long_answered, long_fails, option_answered, option_fails}
use Rattle.rssd_disk.proofs.handshake.take_option.Goals as goal

pub returns-then-count-room : goal.returns-then-count-room
returns-then-count-room g c =
    let skips = c.in_ok-skip.ensures.skips in
    let option : TakesOption (g.I.Source.log c.args.from.now) (g.I.Source.log c.skip.new.from)
    = takes_option c.in_ok-head.head skips.bytes c.in_ok-head.ensures.spelled c.in_ok-head.ensures.taken skips.long skips.taken in
    let long : 1048592 < length option.bytes = omega (arith, skips.long, c.if-count-room.true, c.requires) in
    let old : List Event = g.O.Sink.log c.args.to.now in
    let new : List Event = g.O.Sink.log c.refuse.new.to in
    record {
      answered = long_answered c.args.size c.args.flags c.refuse.result old new option long c.refuse.ensures.next c.refuse.ensures.gave;
      ends = long_fails c.args.size c.args.flags c.refuse.result old new option long c.refuse.ensures.fault c.refuse.ensures.stops;
    }

pub returns : goal.returns
returns g c =
    let head : OptionHead = c.in_ok-head.head in
    let bytes : List ℕ = take head.length c.take_bytes.new.room in
    let long : length bytes ≡ head.length = length-take head.length c.take_bytes.new.room ∙ omega (arith, c.if-count-room.false, c.take_bytes.auto.room) in
    let option : TakesOption (g.I.Source.log c.args.from.now) (g.I.Source.log c.take_bytes.new.from)
    = takes_option head bytes c.in_ok-head.ensures.spelled c.in_ok-head.ensures.taken long c.in_ok-take_bytes.ensures.taken in
    let short : length option.bytes ≤ 1048592 = omega (arith, long, c.if-count-room.false, c.requires) in
    let old : List Event = g.O.Sink.log c.args.to.now in
    let new : List Event = g.O.Sink.log c.answer_option.new.to in
    record {
      answered = option_answered c.args.size c.args.flags c.answer_option.result old new option short c.answer_option.ensures.answered;
      ends = option_fails c.args.size c.args.flags c.answer_option.result old new option short c.answer_option.ensures.fault c.answer_option.ensures.fails;
    }
