-- Where the die is blank no image was read and none given.
use Rattle.std.proofs.Common.{refl, sym, subst}
use Rattle.lab_words.specs.declared.asked.DieFrom.{DieFrom}
use Rattle.rssd_run.specs.Statuses.{input, output}
use Rattle.rssd_lab.specs.Ends.{Call, SaysOn}
use Rattle.rssd_lab.proofs.top.answer_order.Goals as goal

pub returns-in-Blank : goal.returns-in-Blank
returns-in-Blank g c = λ words.
    let asked = c.args.asked.now in
    let says = c.answer_blank-status.ensures in
    let image = g.M.Source.log c.args.from.image in
    let image_out = g.G.Sink.log c.args.image_out.now in
    let call : Call = record {
      words = words;
      input = input (g.I.Source.log c.args.from.lines) (g.I.Source.log c.answer_blank-status.result.1);
      image = input image image;
      out = output (g.O.Sink.log c.args.out.now) (g.O.Sink.log c.answer_blank-status.new.out);
      image_out = output image_out image_out;
    } in
    record {
      telling = says.0;
      told = says.1;
      says = subst (λ (die : DieFrom). SaysOn die asked.from says.0 call c.answer_blank-status.result.0) (sym c.in-Blank.is) (says.2, refl, refl);
    }

pub returns-in-Image : goal.returns-in-Image
returns-in-Image g c = λ words.
    let asked = c.args.asked.now in
    let says = c.answer_image.ensures.says in
    let from = c.answer_image.result.1 in
    let call : Call = record {
      words = words;
      input = input (g.I.Source.log c.args.from.lines) (g.I.Source.log from.lines);
      image = input (g.M.Source.log c.args.from.image) (g.M.Source.log from.image);
      out = output (g.O.Sink.log c.args.out.now) (g.O.Sink.log c.answer_image.new.out);
      image_out = output (g.G.Sink.log c.args.image_out.now) (g.G.Sink.log c.answer_image.new.image_out);
    } in
    record {
      telling = says.0;
      told = says.1;
      says = subst (λ (die : DieFrom). SaysOn die asked.from says.0 call c.answer_image.result.0) (sym c.in-Image.is) (says.2, c.answer_image.ensures.bounded);
    }
