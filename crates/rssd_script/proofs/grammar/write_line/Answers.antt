-- A number has no space, so the first space is where a `write` is cut.
use Rattle.rssd_script.proofs.FirstWords.{write_no_space, write_no_number, write_no_bytes, write_spells}
use Rattle.rssd_script.proofs.grammar.write_line.Goals as goal

pub returns-in_default : goal.returns-in_default
returns-in_default c = write_no_space c.args.rest.now c.in_default.ensures.none

pub returns-in_default-number_of : goal.returns-in_default-number_of
returns-in_default-number_of c =
    let f = c.in-Some.ensures.found in
    write_no_number c.args.rest.now _ _ f.0 f.1 c.in_default-number_of.ensures.none

pub returns-in_default-2 : goal.returns-in_default-2
returns-in_default-2 c =
    let f = c.in-Some.ensures.found in
    write_no_bytes c.args.rest.now _ _ f.0 f.1 (rw c.in_default-2.is at c.in_ok-bytes.ensures)

pub returns : goal.returns
returns c =
    let f = c.in-Some.ensures.found in
    let n = c.in-Some-number_of.ensures.found in
    write_spells c.args.rest.now _ _ f.0 f.1 _ _ n.0 n.1 (rw c.in-Some-2.is at c.in_ok-bytes.ensures)
