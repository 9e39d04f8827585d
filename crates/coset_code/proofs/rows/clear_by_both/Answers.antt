-- Each step keeps the rows sound.
use Rattle.std.proofs.Common.{arith}
use Rattle.coset_code.proofs.rows.clear_by_both.Goals as goal

pub returns-then-word-eq0 : goal.returns-then-word-eq0
returns-then-word-eq0 c = λ coords old s. c.add_row.ensures coords old c.args.count c.requires.few (omega arith) (omega arith) s

pub returns-then-lead-ne0 : goal.returns-then-lead-ne0
returns-then-lead-ne0 c = λ coords old s.
    c.add_two.ensures coords old
    (c.add_row-then-lead-ne0.ensures coords old c.args.count c.requires.few (omega arith) (omega arith)
    (c.add_row.ensures coords old c.args.count c.requires.few (omega arith) (omega arith) s))

pub returns-then-word-eq0-2 : goal.returns-then-word-eq0-2
returns-then-word-eq0-2 c = λ coords old s. c.add_row-2.ensures coords old c.args.count c.requires.few (omega arith) (omega arith) s

pub returns-then-rows-row-ne0-2 : goal.returns-then-rows-row-ne0-2
returns-then-rows-row-ne0-2 c = λ coords old s.
    c.add_row-3.ensures coords old c.args.count c.requires.few (omega arith) (omega arith)
    (c.add_row-2.ensures coords old c.args.count c.requires.few (omega arith) (omega arith) s)

pub returns : goal.returns
returns c = λ coords old s.
    c.add_two_by_second.ensures coords old
    (c.add_row-3.ensures coords old c.args.count c.requires.few (omega arith) (omega arith)
    (c.add_row-2.ensures coords old c.args.count c.requires.few (omega arith) (omega arith) s))
