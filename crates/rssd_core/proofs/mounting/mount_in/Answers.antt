-- The scan's tables are those of the device, and what a refused scan says is what a refused mount says.
use Rattle.std.proofs.Common.{false, length, refl, sym, subst}
use Rattle.page_codec.specs.Sizes.{Sizes}
use Rattle.rssd_core.specs.Held.{IsHeld, held}
use Rattle.rssd_core.specs.Mount.{numbers_of, Refuses}
use Rattle.rssd_core.proofs.Mounted.{store_held, tables_settled, device_mounts, mount_refuses, new_sectors}
use Rattle.rssd_core.proofs.mounting.mount_in.Goals as goal

pub invariant_of-result : goal.invariant_of-result
invariant_of-result g c =
    let old = g.D.Die.state c.args.die in
    let new = g.D.Die.state c.scan_all.new.die in
    let meaning = g.C.Scheme.meaning c.args.scheme in
    let room = c.requires.room in
    let tables = c.scan_all.new.tables in
    subst (λ (sizes : Sizes). IsHeld g.C.Scheme.meaning sizes c.args.room.moves (held g.C.Scheme.meaning new c.args.scheme tables.map tables.book tables.seq 0 false))
    (sym c.scan_all.ensures.same_work)
    (store_held g.C.Scheme.meaning c.args.scheme old new c.args.plan c.args.room.work tables (length c.args.room.tables.map) c.requires.fits room.work
    (new_sectors old.shape c.args.plan.sectors meaning.span meaning.generations c.args.room.tables room.tables) c.in-Ok.ensures.reads c.in-Ok.ensures.mounted
    room.moves room.tables.some_units)

pub invariant_of-result-in-Ok : goal.invariant_of-result-in-Ok
invariant_of-result-in-Ok g c =
    let old = g.D.Die.state c.args.die in
    let new = g.D.Die.state c.scan_all.new.die in
    let meaning = g.C.Scheme.meaning c.args.scheme in
    let room = c.requires.room in
    λ running. tables_settled g.C.Scheme.meaning c.args.scheme old new c.args.plan c.args.room.work c.scan_all.new.tables (length c.args.room.tables.map) c.requires.fits room.work
    (new_sectors old.shape c.args.plan.sectors meaning.span meaning.generations c.args.room.tables room.tables) c.in-Ok.ensures.reads c.in-Ok.ensures.mounted

pub returns-in-Ok-clause-mounted : goal.returns-in-Ok-clause-mounted
returns-in-Ok-clause-mounted g c =
    let old = g.D.Die.state c.args.die in
    let new = g.D.Die.state c.scan_all.new.die in
    let meaning = g.C.Scheme.meaning c.args.scheme in
    let room = c.requires.room in
    device_mounts g.C.Scheme.meaning c.args.scheme old new c.args.plan c.args.room.work c.scan_all.new.tables (length c.args.room.tables.map) c.requires.fits room.work
    (new_sectors old.shape c.args.plan.sectors meaning.span meaning.generations c.args.room.tables room.tables) c.in-Ok.ensures.reads c.in-Ok.ensures.mounted refl

pub returns-in-Err-clause-refused : goal.returns-in-Err-clause-refused
returns-in-Err-clause-refused g c =
    let old = g.D.Die.state c.args.die in
    let new = g.D.Die.state c.scan_all.new.die in
    let meaning = g.C.Scheme.meaning c.args.scheme in
    let room = c.requires.room in
    subst (Refuses (numbers_of old.shape meaning c.args.plan) old new) (sym c.refusal.ensures)
    (mount_refuses old new meaning c.args.plan c.args.room.work (length c.args.room.tables.map) c.in-Err.why room.work
    (new_sectors old.shape c.args.plan.sectors meaning.span meaning.generations c.args.room.tables room.tables) c.in-Err.ensures.refused)
