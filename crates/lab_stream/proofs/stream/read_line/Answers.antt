-- The script of the text has its one line.
use Rattle.std.proofs.Common.{List, [], ◌≡◌, subst, rules}
use Rattle.rssd_script.specs.declared.lines.Line.{Line}
use Rattle.rssd_script.specs.Scripts.{Reads}
use Rattle.lab_stream.proofs.TextLines.{some_line, only_line}
use Rattle.lab_stream.proofs.stream.read_line.Goals as goal

pub unreachable-requires : goal.unreachable-requires
unreachable-requires c =
    let none : c.in-Ok.lines.items ≡ [] = search rules in
    some_line c.args.text.now c.requires.text (subst (λ (lines : List Line). Reads c.args.text.now lines) none c.in-Ok.ensures.answer)

pub returns-in-Some-clause-line : goal.returns-in-Some-clause-line
returns-in-Some-clause-line c =
    only_line c.args.text.now c.requires.text c.pop.new.self.items c.in-Some.line
    (subst (λ (lines : List Line). Reads c.args.text.now lines) c.in-Some.ensures.items c.in-Ok.ensures.answer)
