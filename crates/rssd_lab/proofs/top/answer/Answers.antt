-- The words spell one order alone.
use Rattle.std.proofs.Common.{◌≡◌, Option, Some, Global, map, string_bytes, subst}
use Rattle.lab_words.specs.declared.asked.Asked.{Asked}
use Rattle.rssd_run.specs.Statuses.{input, output}
use Rattle.rssd_lab.specs.Ends.{Call, SaysOf}
use Rattle.rssd_lab.proofs.Completes.{completes}
use Rattle.rssd_lab.proofs.top.answer.Goals as goal

same_order : (found : Option Asked) (a b : Asked) → found ≡ Some a → found ≡ Some b → a ≡ b
same_order found a b is_a is_b = cc

pub returns-in-Some : goal.returns-in-Some
returns-in-Some g c =
    let from = c.answer_order.result.1 in
    let status = c.answer_order.result.0 in
    let call : Call = record {
      words = map (string_bytes {Z = Global}) c.args.words.now;
      input = input (g.I.Source.log c.args.from.lines) (g.I.Source.log from.lines);
      image = input (g.M.Source.log c.args.from.image) (g.M.Source.log from.image);
      out = output (g.O.Sink.log c.args.out.now) (g.O.Sink.log c.answer_order.new.out);
      image_out = output (g.G.Sink.log c.args.image_out.now) (g.G.Sink.log c.answer_order.new.image_out);
    } in
    record {
      order = λ asked spells.
          let same = same_order c.read_words.result c.in-Some.asked asked c.in-Some.is (c.read_words.ensures.only asked spells.within spells.spelled) in
          let says : SaysOf asked call status = subst (λ (order : Asked). SaysOf order call status) same (c.answer_order.ensures call.words) in
          (says, completes asked call status says);
      none = λ never. absurd (never c.in-Some.asked (record { within = c.in-Some.ensures.found.0; spelled = c.in-Some.ensures.found.1 }));
    }
