-- Each step keeps the rows sound.
use Rattle.coset_code.proofs.rows.clear_by_pair.Goals as goal

pub returns-then-not-clear_by_both : goal.returns-then-not-clear_by_both
returns-then-not-clear_by_both c = λ coords old s.
    c.clear_by-then-not-clear_by_both.ensures coords old (c.clear_by.ensures coords old (c.clear_by_both.ensures coords old s))
