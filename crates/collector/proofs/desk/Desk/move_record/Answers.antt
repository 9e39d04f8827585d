-- The put leaves all sectors, and from its gate on the record effect makes the tables true again.
use Rattle.std.proofs.lemmas.Result.{err_from_is_err_and}
use Rattle.collector.proofs.Moving.{is_moving, page_within, page_blank, unit_within, failed_ends, failed_holds, moving_holds, moved_record, moving_may_record}
use Rattle.collector.proofs.desk.Desk.move_record.Goals as goal

pub put_again-requires-clause-free : goal.put_again-requires-clause-free
put_again-requires-clause-free g c =
    let moving = is_moving c.requires.fits.die c.requires.fits.scheme (g.met.C.Scheme.decodes c.args.self.now.scheme.now) (g.met.D.Die.shaped c.args.self.now.die.now)
    c.requires.tables c.requires.fresh c.requires.live c.requires.next in
    record { there = page_within moving; blank = page_blank moving }

pub put_again-requires-clause-unit : goal.put_again-requires-clause-unit
put_again-requires-clause-unit g c =
    let moving = is_moving c.requires.fits.die c.requires.fits.scheme (g.met.C.Scheme.decodes c.args.self.now.scheme.now) (g.met.D.Die.shaped c.args.self.now.die.now)
    c.requires.tables c.requires.fresh c.requires.live c.requires.next in
    unit_within moving

pub returns-in_err-put_again-clause-holds : goal.returns-in_err-put_again-clause-holds
returns-in_err-put_again-clause-holds g c =
    let moving = is_moving c.requires.fits.die c.requires.fits.scheme (g.met.C.Scheme.decodes c.args.self.now.scheme.now) (g.met.D.Die.shaped c.args.self.now.die.now)
    c.requires.tables c.requires.fresh c.requires.live c.requires.next in
    let shaped = g.met.D.Die.shaped c.put_again.new.self.die.now in
    failed_holds moving
    c.put_again.ensures.stays.kept shaped c.put_again.ensures.same_book c.put_again.new.self.seq.now c.in_err-put_again.field-0.0 c.in_err-put_again.ensures.ends

pub returns-in_err-put_again-clause-ends : goal.returns-in_err-put_again-clause-ends
returns-in_err-put_again-clause-ends g c =
    let moving = is_moving c.requires.fits.die c.requires.fits.scheme (g.met.C.Scheme.decodes c.args.self.now.scheme.now) (g.met.D.Die.shaped c.args.self.now.die.now)
    c.requires.tables c.requires.fresh c.requires.live c.requires.next in
    let shaped = g.met.D.Die.shaped c.put_again.new.self.die.now in
    let q = err_from_is_err_and c.from_residual.result c.from_residual.ensures.1 in
    rw (q.1, q.2) (failed_ends moving
    c.put_again.ensures.stays.kept shaped c.put_again.ensures.same_book c.put_again.new.self.seq.now c.in_err-put_again.field-0.0 c.in_err-put_again.ensures.ends)

pub record_effect-requires-clause-page : goal.record_effect-requires-clause-page
record_effect-requires-clause-page g c =
    let moving = is_moving c.requires.fits.die c.requires.fits.scheme (g.met.C.Scheme.decodes c.args.self.now.scheme.now) (g.met.D.Die.shaped c.args.self.now.die.now)
    c.requires.tables c.requires.fresh c.requires.live c.requires.next in
    let shaped = g.met.D.Die.shaped c.put_again.new.self.die.now in
    (moving_may_record moving
    c.in_ok-put_again.ensures.ends.0 c.put_again.ensures.stays.kept shaped c.first_entry.result c.first_entry.ensures.place c.put_again.ensures.same_book).page

pub record_effect-requires-clause-block : goal.record_effect-requires-clause-block
record_effect-requires-clause-block g c =
    let moving = is_moving c.requires.fits.die c.requires.fits.scheme (g.met.C.Scheme.decodes c.args.self.now.scheme.now) (g.met.D.Die.shaped c.args.self.now.die.now)
    c.requires.tables c.requires.fresh c.requires.live c.requires.next in
    let shaped = g.met.D.Die.shaped c.put_again.new.self.die.now in
    (moving_may_record moving
    c.in_ok-put_again.ensures.ends.0 c.put_again.ensures.stays.kept shaped c.first_entry.result c.first_entry.ensures.place c.put_again.ensures.same_book).block

pub record_effect-requires-clause-room : goal.record_effect-requires-clause-room
record_effect-requires-clause-room g c =
    let moving = is_moving c.requires.fits.die c.requires.fits.scheme (g.met.C.Scheme.decodes c.args.self.now.scheme.now) (g.met.D.Die.shaped c.args.self.now.die.now)
    c.requires.tables c.requires.fresh c.requires.live c.requires.next in
    let shaped = g.met.D.Die.shaped c.put_again.new.self.die.now in
    (moving_may_record moving
    c.in_ok-put_again.ensures.ends.0 c.put_again.ensures.stays.kept shaped c.first_entry.result c.first_entry.ensures.place c.put_again.ensures.same_book).room

pub record_effect-requires-clause-former : goal.record_effect-requires-clause-former
record_effect-requires-clause-former g c =
    let moving = is_moving c.requires.fits.die c.requires.fits.scheme (g.met.C.Scheme.decodes c.args.self.now.scheme.now) (g.met.D.Die.shaped c.args.self.now.die.now)
    c.requires.tables c.requires.fresh c.requires.live c.requires.next in
    let shaped = g.met.D.Die.shaped c.put_again.new.self.die.now in
    (moving_may_record moving
    c.in_ok-put_again.ensures.ends.0 c.put_again.ensures.stays.kept shaped c.first_entry.result c.first_entry.ensures.place c.put_again.ensures.same_book).former

pub returns-clause-holds : goal.returns-clause-holds
returns-clause-holds g c =
    let moving = is_moving c.requires.fits.die c.requires.fits.scheme (g.met.C.Scheme.decodes c.args.self.now.scheme.now) (g.met.D.Die.shaped c.args.self.now.die.now)
    c.requires.tables c.requires.fresh c.requires.live c.requires.next in
    let shaped = g.met.D.Die.shaped c.put_again.new.self.die.now in
    moving_holds moving
    c.in_ok-put_again.ensures.ends.0 c.put_again.ensures.stays.kept shaped c.record_effect.new.map c.record_effect.new.book c.put_again.new.self.seq.now c.in_ok-put_again.ensures.ends.3

pub returns-clause-ends : goal.returns-clause-ends
returns-clause-ends g c =
    let moving = is_moving c.requires.fits.die c.requires.fits.scheme (g.met.C.Scheme.decodes c.args.self.now.scheme.now) (g.met.D.Die.shaped c.args.self.now.die.now)
    c.requires.tables c.requires.fresh c.requires.live c.requires.next in
    let shaped = g.met.D.Die.shaped c.put_again.new.self.die.now in
    let moved =
    moved_record moving c.in_ok-put_again.ensures.ends.0 c.put_again.ensures.stays.kept shaped c.first_entry.result c.first_entry.ensures.place c.put_again.ensures.same_book
    c.record_effect.new.map c.record_effect.new.book c.put_again.new.self.seq.now c.in_ok-put_again.ensures.ends.1 c.in_ok-put_again.ensures.ends.3 c.first_entry.ensures.entry
    c.record_effect.ensures.map c.record_effect.ensures.book in
    (moved, c.in_ok-put_again.ensures.ends.2)
