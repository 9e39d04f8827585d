-- A true book stays true where blocks are recycled.
use Rattle.rssd_core.proofs.RecycledLaws.{recycled_held, recycled_keeps, recycled_done}
use Rattle.rssd_core.proofs.store.Store.settle.Goals as goal

pub invariant_of-self : goal.invariant_of-self
invariant_of-self g c = recycled_held c.self.invariant c.recycle_due.ensures.recycles

pub returns-clause-keeps : goal.returns-clause-keeps
returns-clause-keeps g c = recycled_keeps c.self.invariant c.recycle_due.ensures.recycles c.self.view_is

pub returns-clause-stands : goal.returns-clause-stands
returns-clause-stands g c = (recycled_held c.self.invariant c.recycle_due.ensures.recycles).stands

pub returns-clause-done : goal.returns-clause-done
returns-clause-done g c = recycled_done c.self.invariant c.recycle_due.ensures.recycles
