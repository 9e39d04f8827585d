-- The line of a bad line.
use Rattle.std.proofs.Common.{ℕ, List, refl, subst, ◌∙◌}
use Rattle.rssd_run.specs.Statuses.{GaveLine, output}
use Rattle.rssd_run.proofs.refusal.refuse_script.Goals as goal

pub returns-in-BadLine-clause-says : goal.returns-in-BadLine-clause-says
returns-in-BadLine-clause-says g c =
    let log = g.O.Sink.log in
    rw c.in-BadLine.is (
      refl,
      subst (λ (line : List ℕ). GaveLine (output (log c.args.out.now) (log c.refuse-in-BadLine.new.out)) line)
          (c.deref.ensures.0 ∙ c.bad_line.ensures) c.refuse-in-BadLine.ensures.line,
    )
