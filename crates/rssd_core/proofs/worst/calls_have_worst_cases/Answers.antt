-- The victim of a collection has fewer live records than pages.
use Rattle.rssd_core.proofs.Bounds.{worst_cases}
use Rattle.rssd_core.proofs.worst.calls_have_worst_cases.Goals as goal

pub returns : goal.returns
returns c = worst_cases
