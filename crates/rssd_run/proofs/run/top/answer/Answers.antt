-- The words spell one command alone, and what its status says leaves two statuses where the call was asked.
use Rattle.std.proofs.Common.{◌≡◌, Option, Some, map, string_bytes, subst}
use Rattle.rssd_words.specs.declared.command.Command.{Command}
use Rattle.rssd_run.specs.Statuses.{Call, input, output}
use Rattle.rssd_run.specs.Top.{SaysOf}
use Rattle.rssd_run.proofs.Completeness.{completes}
use Rattle.rssd_run.proofs.run.top.answer.Goals as goal

same_command : (found : Option Command) (a b : Command) → found ≡ Some a → found ≡ Some b → a ≡ b
same_command found a b is_a is_b = cc

pub returns-in-Some-clause-says : goal.returns-in-Some-clause-says
returns-in-Some-clause-says g c =
    let call : Call = record {
      words = map string_bytes c.args.words.now;
      image = input (g.I.Source.log c.args.image.now) (g.I.Source.log c.answer_command.new.image);
      script = input (g.T.Source.log c.args.script.now) (g.T.Source.log c.answer_command.new.script);
      out = output (g.O.Sink.log c.args.out.now) (g.O.Sink.log c.answer_command.new.out);
      image_out = output (g.G.Sink.log c.args.image_out.now) (g.G.Sink.log c.answer_command.new.image_out);
    } in
    record {
      command = λ command spells.
          let same : c.in-Some.command ≡ command = same_command c.read_words.result c.in-Some.command command c.in-Some.is (c.read_words.ensures.only command spells.within spells.spelled) in
          let says : SaysOf command call c.answer_command.result = subst (λ (k : Command). SaysOf k call c.answer_command.result) same (c.answer_command.ensures.says call.words) in
          (says, completes command call c.answer_command.result says);
      none = λ never. absurd (never c.in-Some.command (record { within = c.in-Some.ensures.found.0; spelled = c.in-Some.ensures.found.1 }));
    }
