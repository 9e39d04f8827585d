-- What is wanted fills up the head, or the cells and one byte more.
use Rattle.die_image.proofs.Reach.{stays_within}
use Rattle.die_image.proofs.laws.what_is_wanted_is_within_reach.Goals as goal

pub returns : goal.returns
returns c = stays_within
