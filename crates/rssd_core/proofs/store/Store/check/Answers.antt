-- The tally of moved records is a number of 64 bits.
use Rattle.std.proofs.Common.{rules, ◌<◌, ◌^◌}
use Rattle.rssd_core.proofs.RecycledLaws.{few_moved_is}
use Rattle.rssd_core.proofs.store.Store.check.Goals as goal

pub returns-then-sector-sectors-clause-few_moved : goal.returns-then-sector-sectors-clause-few_moved
returns-then-sector-sectors-clause-few_moved g c =
    let few : c.self.inside.moved < 2 ^ 64 = search rules in few_moved_is c.self.view_is few

pub returns-then-self-clause-few_moved : goal.returns-then-self-clause-few_moved
returns-then-self-clause-few_moved g c =
    let few : c.self.inside.moved < 2 ^ 64 = search rules in few_moved_is c.self.view_is few

pub returns-clause-few_moved : goal.returns-clause-few_moved
returns-clause-few_moved g c =
    let few : c.self.inside.moved < 2 ^ 64 = search rules in few_moved_is c.self.view_is few
