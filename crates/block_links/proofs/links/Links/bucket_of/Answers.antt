-- What the fields keep says that no node stands twice.
use Rattle.block_links.proofs.Ring.{is_valid}
use Rattle.block_links.proofs.links.Links.bucket_of.Goals as goal

pub returns-clause-valid : goal.returns-clause-valid
returns-clause-valid c = rw (← c.self.view_is) (is_valid _ _ _ _ c.self.invariant)
