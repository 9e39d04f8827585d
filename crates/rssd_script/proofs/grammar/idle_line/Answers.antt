-- What follows the word is a number, or the text spells no line.
use Rattle.std.proofs.Common.{◌++◌, ap, codes}
use Rattle.rssd_script.specs.Script.{line_text, IsWithinGrammar}
use Rattle.rssd_script.proofs.FirstWords.{number_parts_idle}
use Rattle.rssd_script.proofs.grammar.idle_line.Goals as goal

pub returns-in_err-number_of : goal.returns-in_err-number_of
returns-in_err-number_of c =
    rw c.from_residual.ensures (λ line s. let p = number_parts_idle c.args.rest.now line s in c.in_err-number_of.ensures.none p.0 p.1 p.2)

pub returns : goal.returns
unfolding line_text IsWithinGrammar
returns c = (c.in_ok-number_of.ensures.found.0, ap (λ t. codes "idle " ++ t) c.in_ok-number_of.ensures.found.1)
