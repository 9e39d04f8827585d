-- The victim was erased and is opened, or its erase failed.
use Rattle.std.proofs.Common.{rules, refl}
use Rattle.rssd_core.proofs.StoreLaws.{after_keeps, after_held}
use Rattle.rssd_core.proofs.StoreOpening.{wiped_holds, unwiped_holds, wipe_opened, wipe_true, wipe_fails}
use Rattle.rssd_core.proofs.store.Store.wipe.Goals as goal

pub invariant_of-self : goal.invariant_of-self
invariant_of-self g c =
    after_held (wiped_holds c.self.view_is c.self.invariant c.requires.running c.requires.branch c.erase.ensures.kept (g.met.D.Die.shaped c.self.inside.die) (g.met.D.Die.shaped c.erase.new.self)
    c.erase.ensures.only_block c.open_block.new.book c.in-Ok.ensures.erased) refl refl c.self.invariant refl refl
    (λ _. wipe_true c.self.view_is c.self.invariant c.requires.running c.requires.branch c.erase.ensures.kept (g.met.D.Die.shaped c.self.inside.die) (g.met.D.Die.shaped c.erase.new.self)
    c.erase.ensures.only_block c.in-Ok.ensures.erased c.in-Ok.ensures.passed (search rules) c.open_block.ensures.book c.open_block.ensures.page)

pub returns-in-Ok-clause-keeps : goal.returns-in-Ok-clause-keeps
returns-in-Ok-clause-keeps g c =
    after_keeps (wiped_holds c.self.view_is c.self.invariant c.requires.running c.requires.branch c.erase.ensures.kept (g.met.D.Die.shaped c.self.inside.die) (g.met.D.Die.shaped c.erase.new.self)
    c.erase.ensures.only_block c.open_block.new.book c.in-Ok.ensures.erased) refl refl c.self.view_is

pub returns-in-Ok-clause-ends : goal.returns-in-Ok-clause-ends
returns-in-Ok-clause-ends g c =
    wipe_opened c.self.view_is c.self.invariant c.requires.running c.requires.branch c.erase.ensures.kept (g.met.D.Die.shaped c.self.inside.die) (g.met.D.Die.shaped c.erase.new.self)
    c.erase.ensures.only_block c.in-Ok.ensures.erased c.in-Ok.ensures.passed (search rules) c.open_block.ensures.book c.open_block.ensures.page

pub returns-in-Err-clause-keeps : goal.returns-in-Err-clause-keeps
returns-in-Err-clause-keeps g c =
    after_keeps (unwiped_holds c.self.view_is c.self.invariant c.requires.running c.requires.branch c.erase.ensures.kept (g.met.D.Die.shaped c.self.inside.die) (g.met.D.Die.shaped c.erase.new.self)
    c.erase.ensures.only_block c.in-Err.ensures.in_part c.in-Err.ensures.failed) refl refl c.self.view_is

pub returns-in-Err-clause-ends : goal.returns-in-Err-clause-ends
returns-in-Err-clause-ends g c =
    wipe_fails c.self.view_is c.self.invariant c.requires.running c.requires.branch c.erase.ensures.kept (g.met.D.Die.shaped c.self.inside.die) (g.met.D.Die.shaped c.erase.new.self)
    c.erase.ensures.only_block c.in-Err.ensures.in_part c.in-Err.ensures.failed
