-- A count outside its limits is the text of no count.
use Rattle.std.proofs.Common.{◌≡◌, sym, ◌∙◌, arith}
use Rattle.std.proofs.lemmas.Fmt.{decimal_injective}
use Rattle.rssd_script.proofs.numbers.arm_count_of.Goals as goal
use Rattle.rssd_script.proofs.numbers.arm_count_of.Goals.{then-n-lt-LEAST_COUNT-via-then-n-lt-LEAST_COUNT, then-n-lt-LEAST_COUNT-via-else-n-lt-LEAST_COUNT+then-n-gt-MOST_COUNT}

pub returns-then-n-lt-LEAST_COUNT-clause-none : goal.returns-then-n-lt-LEAST_COUNT-clause-none
returns-then-n-lt-LEAST_COUNT-clause-none c n low high e =
    let is : c.in_ok-n.n ≡ n = decimal_injective _ _ (omega (arith, c.in_ok-n.ensures.found.0)) (omega arith) (sym c.in_ok-n.ensures.found.1 ∙ e) in
    elim c.then-n-lt-LEAST_COUNT.branch [
      | then-n-lt-LEAST_COUNT-via-then-n-lt-LEAST_COUNT w ↦ omega arith
      | then-n-lt-LEAST_COUNT-via-else-n-lt-LEAST_COUNT+then-n-gt-MOST_COUNT w ↦ omega arith
    ]
