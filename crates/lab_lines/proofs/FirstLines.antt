-- Lines that were drawn one after another are the first of their workload.
use Rattle.std.proofs.Common.{◌≡◌, ◌+◌, List, [], ◌∷◌, length, refl, ap, ◌∙◌, arith}
use Rattle.rssd_script.specs.declared.lines.Line.{Line}
use Rattle.lab_lines.specs.declared.drawn.Drawn.{Drawn}
use Rattle.lab_lines.specs.Given.{AllGiven}
use Rattle.lab_lines.specs.Workload.{drawn_from}
use Rattle.lab_lines.specs.Drawing.{plan_of, state_of, left_of, DrawsLine}

pub first_lines : (old new : Drawn) (lines : List Line) → AllGiven DrawsLine old lines new
    → (lines ≡ drawn_from (plan_of old) (length lines) (state_of old)) × (left_of new + length lines ≡ left_of old)
unfolding AllGiven drawn_from
first_lines old new [] given = (refl, omega (arith, ap left_of given))
first_lines old new (line ∷ lines) given =
    let rest : (lines ≡ drawn_from (plan_of given.0) (length lines) (state_of given.0)) × (left_of new + length lines ≡ left_of given.0)
    = first_lines given.0 new lines given.2 in (
      λ i. given.1.line_is i ∷ (rest.0 ∙ (λ j. drawn_from (given.1.plan j) (length lines) (given.1.state j))) i,
      omega (arith, rest.1, given.1.some),
    )
