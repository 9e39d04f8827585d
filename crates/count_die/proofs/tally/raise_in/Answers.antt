-- The raised count raises the sum.
use Rattle.std.proofs.Common.{◌+◌, ◌-◌, ◌^◌, ◌≡◌, ℕ, ap, sym, ◌∙◌}
use Rattle.std.specs.Prelude.{min}
use Rattle.cell_die.specs.Counts.{sum_of}
use Rattle.count_die.proofs.Sums.{sum_raised}
use Rattle.count_die.proofs.tally.raise_in.Goals as goal

pub returns-clause-sum : goal.returns-clause-sum
returns-clause-sum c =
    c.saturating_add.ensures ∙ ap (λ (n : ℕ). min (n + 1) (2 ^ 64 - 1)) c.requires.sum
    ∙ sym (sum_raised c.args.counts.now c.args.place c.requires.place c.raise.ensures.small) ∙ sym (ap sum_of c.raise.ensures.raised)
