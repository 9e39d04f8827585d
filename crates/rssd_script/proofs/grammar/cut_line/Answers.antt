-- A number has no space, so the first space is where a `cut` is cut.
use Rattle.rssd_script.proofs.FirstWords.{cut_no_space, cut_no_number, cut_no_torn, cut_spells}
use Rattle.rssd_script.proofs.grammar.cut_line.Goals as goal

pub returns-in_err-number : goal.returns-in_err-number
returns-in_err-number c = rw c.from_residual.ensures (cut_no_space c.args.rest.now c.in_err-number.ensures.none)

pub returns-in_err-n : goal.returns-in_err-n
returns-in_err-n c =
    let f = c.in_ok-number.ensures.found in
    rw c.from_residual-in_err-n.ensures (cut_no_number c.args.rest.now _ _ f.0 f.1 c.in_err-n.ensures.none)

pub returns-in_err-torn : goal.returns-in_err-torn
returns-in_err-torn c =
    let f = c.in_ok-number.ensures.found in
    rw c.from_residual-in_err-torn.ensures (cut_no_torn c.args.rest.now _ _ f.0 f.1 c.in_err-torn.ensures)

pub returns : goal.returns
returns c =
    let f = c.in_ok-number.ensures.found in
    let n = c.in_ok-n.ensures.found in
    cut_spells c.args.rest.now _ _ f.0 f.1 _ _ (n.0, n.1) n.2 c.in_ok-torn.ensures
