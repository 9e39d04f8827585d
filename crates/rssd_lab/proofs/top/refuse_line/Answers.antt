-- The line of a bad line.
use Rattle.std.proofs.Common.{ℕ, List, subst, ◌∙◌}
use Rattle.rssd_lab.specs.Top.{GivesLine}
use Rattle.rssd_lab.proofs.top.refuse_line.Goals as goal

pub returns-clause-line : goal.returns-clause-line
returns-clause-line g c =
    let log = g.O.Sink.log in
    subst (λ (line : List ℕ). GivesLine line (log c.args.out.now) (log c.refuse.new.out)) (c.as_slice.ensures.value ∙ c.bad_line-line.ensures) c.refuse.ensures
