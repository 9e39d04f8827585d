-- Each branch gets its page.
use Rattle.std.proofs.Common.{rules, refl}
use Rattle.rssd_core.proofs.StoreLaws.{after_held}
use Rattle.rssd_core.proofs.StoreOpening.{page_opened, take_opened, take_true, take_holds}
use Rattle.rssd_core.proofs.store.Store.open_page.Goals as goal

pub invariant_of-self : goal.invariant_of-self
invariant_of-self g c =
    after_held (take_holds c.self.invariant c.open_block.new.book) refl refl c.self.invariant refl refl
    (λ _. take_true c.self.view_is c.self.invariant c.requires.running c.in-Take.ensures (search rules) c.open_block.ensures.book c.open_block.ensures.page)

pub returns-in-Page-clause-ends : goal.returns-in-Page-clause-ends
returns-in-Page-clause-ends g c = page_opened c.self.view_is c.self.invariant c.requires.running c.in-Page.ensures (search rules)

pub returns-in-Take-clause-ends : goal.returns-in-Take-clause-ends
returns-in-Take-clause-ends g c =
    take_opened c.self.view_is c.self.invariant c.requires.running c.in-Take.ensures (search rules) c.open_block.ensures.book c.open_block.ensures.page
