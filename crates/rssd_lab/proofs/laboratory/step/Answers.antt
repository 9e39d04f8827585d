-- What was counted are the sums of the tally of the device's die.
use Rattle.std.proofs.Common.{subst, ap, ◌∙◌}
use Rattle.cell_die.specs.DieState.{DieState}
use Rattle.count_die.specs.declared.tally.Totals.{Totals}
use Rattle.count_die.specs.Covers.{Covers}
use Rattle.rssd_lab.proofs.laboratory.step.Goals as goal

pub returns-clause-counted : goal.returns-clause-counted
returns-clause-counted g c =
    let totals = c.add.ensures.totals in (
      c.tally.result.now,
      record {
        covers = subst (λ (state : DieState). Covers state.shape c.tally.result.now) c.die.ensures c.tally.ensures.covers;
        reads = ap (λ (t : Totals). t.reads) totals ∙ c.totals.ensures.reads;
        programs = ap (λ (t : Totals). t.programs) totals ∙ c.totals.ensures.programs;
        charges = ap (λ (t : Totals). t.charges) totals ∙ c.totals.ensures.charges;
        erases = ap (λ (t : Totals). t.erases) totals ∙ c.totals.ensures.erases;
      },
    )
