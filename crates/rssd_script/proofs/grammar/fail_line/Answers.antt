-- What follows the word is a count, or the text spells no line.
use Rattle.std.proofs.Common.{◌++◌, ap, codes}
use Rattle.rssd_script.specs.Script.{line_text, IsWithinGrammar}
use Rattle.rssd_script.proofs.FirstWords.{number_parts_fail}
use Rattle.rssd_script.proofs.grammar.fail_line.Goals as goal

pub returns-in_err-arm_count_of : goal.returns-in_err-arm_count_of
returns-in_err-arm_count_of c =
    rw c.from_residual.ensures (λ line s. let p = number_parts_fail c.args.rest.now line s in c.in_err-arm_count_of.ensures.none p.0 p.1.0 p.1.1 p.2)

pub returns : goal.returns
unfolding line_text IsWithinGrammar
returns c = ((c.in_ok-arm_count_of.ensures.found.0, c.in_ok-arm_count_of.ensures.found.1), ap (λ t. codes "failread " ++ t) c.in_ok-arm_count_of.ensures.found.2)
