-- The put is one over the offered unit, and its outcomes follow from the gate.
use Rattle.std.proofs.Common.{refl, ap, length, ◌∙◌, length-set}
use Rattle.rssd_core.proofs.StoreLaws.{after_keeps, after_held}
use Rattle.rssd_core.proofs.StoreOver.{over_here, over_page, carried_holds, carried_within, carried_room, carried_drops, carried_offer, carried_true, carried_ends, declined_holds, declined_true}
use Rattle.rssd_core.proofs.StoreOver.{declined_ends, unread_holds, unread_ends, failed_holds, failed_ends}
use Rattle.rssd_core.proofs.store.Store.put_over.Goals as goal

pub record_effect-requires-clause-page : goal.record_effect-requires-clause-page
record_effect-requires-clause-page g c =
    let here = over_here c.self.view_is c.self.invariant c.requires.running c.requires.offer c.requires.small c.requires.sector c.ranges.sector.fits c.requires.bytes (λ k. (c.type_inv.bytes k).fits)
    c.pages.ensures.value c.span.ensures c.put_second.ensures.kept (g.met.D.Die.shaped c.self.inside.die) (g.met.D.Die.shaped c.put_second.new.die) (g.met.C.Scheme.decodes c.self.inside.scheme) in
    over_page here

pub record_effect-requires-clause-block : goal.record_effect-requires-clause-block
record_effect-requires-clause-block g c =
    let here = over_here c.self.view_is c.self.invariant c.requires.running c.requires.offer c.requires.small c.requires.sector c.ranges.sector.fits c.requires.bytes (λ k. (c.type_inv.bytes k).fits)
    c.pages.ensures.value c.span.ensures c.put_second.ensures.kept (g.met.D.Die.shaped c.self.inside.die) (g.met.D.Die.shaped c.put_second.new.die) (g.met.C.Scheme.decodes c.self.inside.scheme) in
    carried_within here c.in-Ok-Carried.field-0-is c.in-Ok-Carried.ensures.ends

pub record_effect-requires-clause-room : goal.record_effect-requires-clause-room
record_effect-requires-clause-room g c =
    let here = over_here c.self.view_is c.self.invariant c.requires.running c.requires.offer c.requires.small c.requires.sector c.ranges.sector.fits c.requires.bytes (λ k. (c.type_inv.bytes k).fits)
    c.pages.ensures.value c.span.ensures c.put_second.ensures.kept (g.met.D.Die.shaped c.self.inside.die) (g.met.D.Die.shaped c.put_second.new.die) (g.met.C.Scheme.decodes c.self.inside.scheme) in
    carried_room here c.in-Ok-Carried.field-0-is c.in-Ok-Carried.ensures.ends

pub record_effect-requires-clause-former : goal.record_effect-requires-clause-former
record_effect-requires-clause-former g c =
    let here = over_here c.self.view_is c.self.invariant c.requires.running c.requires.offer c.requires.small c.requires.sector c.ranges.sector.fits c.requires.bytes (λ k. (c.type_inv.bytes k).fits)
    c.pages.ensures.value c.span.ensures c.put_second.ensures.kept (g.met.D.Die.shaped c.self.inside.die) (g.met.D.Die.shaped c.put_second.new.die) (g.met.C.Scheme.decodes c.self.inside.scheme) in
    carried_drops here c.in-Ok-Carried.field-0-is c.in-Ok-Carried.ensures.ends

pub pass-requires : goal.pass-requires
pass-requires g c =
    let here = over_here c.self.view_is c.self.invariant c.requires.running c.requires.offer c.requires.small c.requires.sector c.ranges.sector.fits c.requires.bytes (λ k. (c.type_inv.bytes k).fits)
    c.pages.ensures.value c.span.ensures c.put_second.ensures.kept (g.met.D.Die.shaped c.self.inside.die) (g.met.D.Die.shaped c.put_second.new.die) (g.met.C.Scheme.decodes c.self.inside.scheme) in
    carried_offer here c.in-Ok-Carried.field-0-is c.in-Ok-Carried.ensures.ends c.record_effect.ensures.book

pub returns-in-Ok-Carried-clause-keeps : goal.returns-in-Ok-Carried-clause-keeps
returns-in-Ok-Carried-clause-keeps g c =
    let here = over_here c.self.view_is c.self.invariant c.requires.running c.requires.offer c.requires.small c.requires.sector c.ranges.sector.fits c.requires.bytes (λ k. (c.type_inv.bytes k).fits)
    c.pages.ensures.value c.span.ensures c.put_second.ensures.kept (g.met.D.Die.shaped c.self.inside.die) (g.met.D.Die.shaped c.put_second.new.die) (g.met.C.Scheme.decodes c.self.inside.scheme) in
    after_keeps (carried_holds here c.in-Ok-Carried.field-0-is c.in-Ok-Carried.ensures.ends c.record_effect.new.map c.pass.new.book) c.put_second.ensures.same_scheme
    (ap length c.record_effect.ensures.map ∙ length-set c.self.inside.map c.args.sector _) c.self.view_is

pub returns-in-Ok-Carried-clause-ends : goal.returns-in-Ok-Carried-clause-ends
returns-in-Ok-Carried-clause-ends g c =
    let here = over_here c.self.view_is c.self.invariant c.requires.running c.requires.offer c.requires.small c.requires.sector c.ranges.sector.fits c.requires.bytes (λ k. (c.type_inv.bytes k).fits)
    c.pages.ensures.value c.span.ensures c.put_second.ensures.kept (g.met.D.Die.shaped c.self.inside.die) (g.met.D.Die.shaped c.put_second.new.die) (g.met.C.Scheme.decodes c.self.inside.scheme) in
    carried_ends here c.in-Ok-Carried.field-0-is c.in-Ok-Carried.ensures.ends c.record_effect.ensures.book c.record_effect.ensures.map c.pass.ensures c.self.view_is

pub invariant_of-self : goal.invariant_of-self
invariant_of-self g c =
    let here = over_here c.self.view_is c.self.invariant c.requires.running c.requires.offer c.requires.small c.requires.sector c.ranges.sector.fits c.requires.bytes (λ k. (c.type_inv.bytes k).fits)
    c.pages.ensures.value c.span.ensures c.put_second.ensures.kept (g.met.D.Die.shaped c.self.inside.die) (g.met.D.Die.shaped c.put_second.new.die) (g.met.C.Scheme.decodes c.self.inside.scheme) in
    after_held (carried_holds here c.in-Ok-Carried.field-0-is c.in-Ok-Carried.ensures.ends c.record_effect.new.map c.pass.new.book) c.put_second.ensures.same_scheme
    (ap length c.record_effect.ensures.map ∙ length-set c.self.inside.map c.args.sector _) c.self.invariant c.put_second.ensures.same_work refl
    (λ _. carried_true here c.in-Ok-Carried.field-0-is c.in-Ok-Carried.ensures.ends c.record_effect.ensures.book c.record_effect.ensures.map c.pass.ensures)

pub returns-in-Ok-Declined-clause-keeps : goal.returns-in-Ok-Declined-clause-keeps
returns-in-Ok-Declined-clause-keeps g c =
    let here = over_here c.self.view_is c.self.invariant c.requires.running c.requires.offer c.requires.small c.requires.sector c.ranges.sector.fits c.requires.bytes (λ k. (c.type_inv.bytes k).fits)
    c.pages.ensures.value c.span.ensures c.put_second.ensures.kept (g.met.D.Die.shaped c.self.inside.die) (g.met.D.Die.shaped c.put_second.new.die) (g.met.C.Scheme.decodes c.self.inside.scheme) in
    after_keeps (declined_holds here c.in-Ok-Declined.field-0-is c.in-Ok-Declined.ensures.ends c.pass-in-Ok-Declined.ensures) c.put_second.ensures.same_scheme refl c.self.view_is

pub returns-in-Ok-Declined-clause-ends : goal.returns-in-Ok-Declined-clause-ends
returns-in-Ok-Declined-clause-ends g c =
    let here = over_here c.self.view_is c.self.invariant c.requires.running c.requires.offer c.requires.small c.requires.sector c.ranges.sector.fits c.requires.bytes (λ k. (c.type_inv.bytes k).fits)
    c.pages.ensures.value c.span.ensures c.put_second.ensures.kept (g.met.D.Die.shaped c.self.inside.die) (g.met.D.Die.shaped c.put_second.new.die) (g.met.C.Scheme.decodes c.self.inside.scheme) in
    declined_ends here c.in-Ok-Declined.field-0-is c.in-Ok-Declined.ensures.ends c.pass-in-Ok-Declined.ensures c.self.view_is

pub returns-in-Err-Change-clause-keeps : goal.returns-in-Err-Change-clause-keeps
returns-in-Err-Change-clause-keeps g c =
    let here = over_here c.self.view_is c.self.invariant c.requires.running c.requires.offer c.requires.small c.requires.sector c.ranges.sector.fits c.requires.bytes (λ k. (c.type_inv.bytes k).fits)
    c.pages.ensures.value c.span.ensures c.put_second.ensures.kept (g.met.D.Die.shaped c.self.inside.die) (g.met.D.Die.shaped c.put_second.new.die) (g.met.C.Scheme.decodes c.self.inside.scheme) in
    after_keeps (failed_holds here c.in-Err-Change.field-0-is c.in-Err-Change.ensures.ends) c.put_second.ensures.same_scheme refl c.self.view_is

pub returns-in-Err-Change-clause-ends : goal.returns-in-Err-Change-clause-ends
returns-in-Err-Change-clause-ends g c =
    let here = over_here c.self.view_is c.self.invariant c.requires.running c.requires.offer c.requires.small c.requires.sector c.ranges.sector.fits c.requires.bytes (λ k. (c.type_inv.bytes k).fits)
    c.pages.ensures.value c.span.ensures c.put_second.ensures.kept (g.met.D.Die.shaped c.self.inside.die) (g.met.D.Die.shaped c.put_second.new.die) (g.met.C.Scheme.decodes c.self.inside.scheme) in
    failed_ends here c.in-Err-Change.field-0-is c.in-Err-Change.ensures.ends c.self.view_is

pub returns-in-Err-Read-clause-keeps : goal.returns-in-Err-Read-clause-keeps
returns-in-Err-Read-clause-keeps g c =
    let here = over_here c.self.view_is c.self.invariant c.requires.running c.requires.offer c.requires.small c.requires.sector c.ranges.sector.fits c.requires.bytes (λ k. (c.type_inv.bytes k).fits)
    c.pages.ensures.value c.span.ensures c.put_second.ensures.kept (g.met.D.Die.shaped c.self.inside.die) (g.met.D.Die.shaped c.put_second.new.die) (g.met.C.Scheme.decodes c.self.inside.scheme) in
    after_keeps (unread_holds here c.in-Err-Read.field-0-is c.in-Err-Read.ensures.ends) c.put_second.ensures.same_scheme refl c.self.view_is

pub returns-in-Err-Read-clause-ends : goal.returns-in-Err-Read-clause-ends
returns-in-Err-Read-clause-ends g c =
    let here = over_here c.self.view_is c.self.invariant c.requires.running c.requires.offer c.requires.small c.requires.sector c.ranges.sector.fits c.requires.bytes (λ k. (c.type_inv.bytes k).fits)
    c.pages.ensures.value c.span.ensures c.put_second.ensures.kept (g.met.D.Die.shaped c.self.inside.die) (g.met.D.Die.shaped c.put_second.new.die) (g.met.C.Scheme.decodes c.self.inside.scheme) in
    unread_ends here c.in-Err-Read.field-0-is c.in-Err-Read.ensures.ends c.self.view_is

pub invariant_of-self-in-Ok-Declined : goal.invariant_of-self-in-Ok-Declined
invariant_of-self-in-Ok-Declined g c =
    let here = over_here c.self.view_is c.self.invariant c.requires.running c.requires.offer c.requires.small c.requires.sector c.ranges.sector.fits c.requires.bytes (λ k. (c.type_inv.bytes k).fits)
    c.pages.ensures.value c.span.ensures c.put_second.ensures.kept (g.met.D.Die.shaped c.self.inside.die) (g.met.D.Die.shaped c.put_second.new.die) (g.met.C.Scheme.decodes c.self.inside.scheme) in
    after_held (declined_holds here c.in-Ok-Declined.field-0-is c.in-Ok-Declined.ensures.ends c.pass-in-Ok-Declined.ensures) c.put_second.ensures.same_scheme refl c.self.invariant
    c.put_second.ensures.same_work refl (λ _. declined_true here c.in-Ok-Declined.field-0-is c.in-Ok-Declined.ensures.ends c.pass-in-Ok-Declined.ensures)
