-- The put is one on the page at hand.
use Rattle.std.proofs.Common.{refl, ap, length, ◌∙◌, length-set}
use Rattle.rssd_core.proofs.StoreLaws.{after_keeps, after_held}
use Rattle.rssd_core.proofs.StoreAtHand.{page_here, sector_here, put_holds, put_fails, put_within, put_room, put_drops, put_true, put_stands}
use Rattle.rssd_core.proofs.store.Store.put_sector.Goals as goal

pub put_first-requires-clause-page : goal.put_first-requires-clause-page
put_first-requires-clause-page g c = (page_here c.self.view_is c.self.invariant c.requires.running c.requires.page).within

pub put_first-requires-clause-blank : goal.put_first-requires-clause-blank
put_first-requires-clause-blank g c = (page_here c.self.view_is c.self.invariant c.requires.running c.requires.page).blank

pub returns-in-Err-clause-keeps : goal.returns-in-Err-clause-keeps
returns-in-Err-clause-keeps g c =
    let here = sector_here c.self.view_is c.self.invariant c.requires.running c.requires.page c.requires.small c.requires.sector c.ranges.sector.fits
    (g.met.D.Die.shaped c.self.inside.die) (g.met.D.Die.shaped c.put_first.new.die) c.put_first.ensures.kept c.requires.bytes (λ k. (c.type_inv.bytes k).fits)
    (g.met.C.Scheme.decodes c.self.inside.scheme) c.put_first.ensures.put in
    after_keeps (put_holds here c.self.inside.map c.self.inside.book) c.put_first.ensures.same_scheme refl c.self.view_is

pub returns-in-Err-clause-failed : goal.returns-in-Err-clause-failed
returns-in-Err-clause-failed g c =
    let here = sector_here c.self.view_is c.self.invariant c.requires.running c.requires.page c.requires.small c.requires.sector c.ranges.sector.fits
    (g.met.D.Die.shaped c.self.inside.die) (g.met.D.Die.shaped c.put_first.new.die) c.put_first.ensures.kept c.requires.bytes (λ k. (c.type_inv.bytes k).fits)
    (g.met.C.Scheme.decodes c.self.inside.scheme) c.put_first.ensures.put in
    put_fails here c.self.view_is c.in-Err.ensures.failed

pub record_effect-requires-clause-page : goal.record_effect-requires-clause-page
record_effect-requires-clause-page g c = (page_here c.self.view_is c.self.invariant c.requires.running c.requires.page).few

pub record_effect-requires-clause-block : goal.record_effect-requires-clause-block
record_effect-requires-clause-block g c =
    let here = sector_here c.self.view_is c.self.invariant c.requires.running c.requires.page c.requires.small c.requires.sector c.ranges.sector.fits
    (g.met.D.Die.shaped c.self.inside.die) (g.met.D.Die.shaped c.put_first.new.die) c.put_first.ensures.kept c.requires.bytes (λ k. (c.type_inv.bytes k).fits)
    (g.met.C.Scheme.decodes c.self.inside.scheme) c.put_first.ensures.put in
    put_within here c.in_default.ensures.gated refl refl

pub record_effect-requires-clause-room : goal.record_effect-requires-clause-room
record_effect-requires-clause-room g c =
    let here = sector_here c.self.view_is c.self.invariant c.requires.running c.requires.page c.requires.small c.requires.sector c.ranges.sector.fits
    (g.met.D.Die.shaped c.self.inside.die) (g.met.D.Die.shaped c.put_first.new.die) c.put_first.ensures.kept c.requires.bytes (λ k. (c.type_inv.bytes k).fits)
    (g.met.C.Scheme.decodes c.self.inside.scheme) c.put_first.ensures.put in
    put_room here c.in_default.ensures.gated refl refl

pub record_effect-requires-clause-former : goal.record_effect-requires-clause-former
record_effect-requires-clause-former g c =
    let here = sector_here c.self.view_is c.self.invariant c.requires.running c.requires.page c.requires.small c.requires.sector c.ranges.sector.fits
    (g.met.D.Die.shaped c.self.inside.die) (g.met.D.Die.shaped c.put_first.new.die) c.put_first.ensures.kept c.requires.bytes (λ k. (c.type_inv.bytes k).fits)
    (g.met.C.Scheme.decodes c.self.inside.scheme) c.put_first.ensures.put in
    put_drops here c.in_default.ensures.gated refl refl

pub invariant_of-self-2 : goal.invariant_of-self-2
invariant_of-self-2 g c =
    let here = sector_here c.self.view_is c.self.invariant c.requires.running c.requires.page c.requires.small c.requires.sector c.ranges.sector.fits
    (g.met.D.Die.shaped c.self.inside.die) (g.met.D.Die.shaped c.put_first.new.die) c.put_first.ensures.kept c.requires.bytes (λ k. (c.type_inv.bytes k).fits)
    (g.met.C.Scheme.decodes c.self.inside.scheme) c.put_first.ensures.put in
    after_held (put_holds here c.record_effect.new.map c.record_effect.new.book) c.put_first.ensures.same_scheme (ap length c.record_effect.ensures.map ∙ length-set c.self.inside.map c.args.sector _)
    c.self.invariant c.put_first.ensures.same_work refl (λ _. put_true here c.in_default.ensures.gated refl refl c.in_default.ensures.passed c.record_effect.ensures.map c.record_effect.ensures.book)

pub returns-clause-keeps : goal.returns-clause-keeps
returns-clause-keeps g c =
    let here = sector_here c.self.view_is c.self.invariant c.requires.running c.requires.page c.requires.small c.requires.sector c.ranges.sector.fits
    (g.met.D.Die.shaped c.self.inside.die) (g.met.D.Die.shaped c.put_first.new.die) c.put_first.ensures.kept c.requires.bytes (λ k. (c.type_inv.bytes k).fits)
    (g.met.C.Scheme.decodes c.self.inside.scheme) c.put_first.ensures.put in
    after_keeps (put_holds here c.record_effect.new.map c.record_effect.new.book) c.put_first.ensures.same_scheme
    (ap length c.record_effect.ensures.map ∙ length-set c.self.inside.map c.args.sector _) c.self.view_is

pub returns-clause-put : goal.returns-clause-put
returns-clause-put g c =
    let here = sector_here c.self.view_is c.self.invariant c.requires.running c.requires.page c.requires.small c.requires.sector c.ranges.sector.fits
    (g.met.D.Die.shaped c.self.inside.die) (g.met.D.Die.shaped c.put_first.new.die) c.put_first.ensures.kept c.requires.bytes (λ k. (c.type_inv.bytes k).fits)
    (g.met.C.Scheme.decodes c.self.inside.scheme) c.put_first.ensures.put in
    put_stands here c.in_default.ensures.gated refl refl c.in_default.ensures.passed c.record_effect.ensures.map c.record_effect.ensures.book c.self.view_is
