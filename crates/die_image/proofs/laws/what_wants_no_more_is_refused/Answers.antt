-- The head was refused, or there is a byte past the cells.
use Rattle.die_image.proofs.Reach.{refused_anyway}
use Rattle.die_image.proofs.laws.what_wants_no_more_is_refused.Goals as goal

pub returns : goal.returns
returns c = refused_anyway
