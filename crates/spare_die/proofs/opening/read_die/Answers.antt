-- The table is told, then the reserve is read; reads leave both as they were.
use Rattle.std.proofs.Common.{sym, subst, refl, rules}
use Rattle.std.proofs.lemmas.Result.{err_from_is_err_and}
use Rattle.cell_die.specs.declared.shape.Shape.{Shape}
use Rattle.spare_die.specs.Opening.{FitsShape, IsFresh}
use Rattle.spare_die.proofs.Telling.{cause_after, inside_back, sound_table_read}
use Rattle.spare_die.proofs.Opens.{told_none, told_whole, book_told, sound_told, orderly_told, orderly_opened, starts}
use Rattle.spare_die.proofs.opening.read_die.Goals as goal

pub read_table-requires-clause-told : goal.read_table-requires-clause-told
read_table-requires-clause-told g c =
    told_none (g.D.WornDie.state c.args.die.now) c.args.logical c.in_ok-opening.opening
    (subst (λ (shape : Shape). IsFresh shape c.args.logical c.in_ok-opening.opening) c.shape-shape.ensures c.in_ok-opening.ensures.fresh)

pub read_reserve-requires-clause-book : goal.read_reserve-requires-clause-book
read_reserve-requires-clause-book g c = book_told (told_whole c.read_table.ensures.only_reads c.in_ok-read_table.ensures.told)

pub returns-in_err-read_reserve-clause-cause : goal.returns-in_err-read_reserve-clause-cause
returns-in_err-read_reserve-clause-cause g c =
    let exit = err_from_is_err_and c.from_residual-in_err-read_reserve.result c.from_residual-in_err-read_reserve.ensures.1 in
    rw (exit.1, exit.2)
    (cause_after (g.D.WornDie.state c.args.die.now) (g.D.WornDie.state c.read_table.new.die) (g.D.WornDie.state c.read_reserve.new.die) c.args.logical c.in_err-read_reserve.field-0.0
    c.read_table.ensures.only_reads c.in_err-read_reserve.ensures.cause)

pub returns-clause-sound : goal.returns-clause-sound
returns-clause-sound g c =
    sound_table_read (inside_back c.read_table.ensures.only_reads)
    (sound_told (told_whole c.read_table.ensures.only_reads c.in_ok-read_table.ensures.told) c.in_ok-read_reserve.ensures.spares)

pub returns-clause-orderly : goal.returns-clause-orderly
returns-clause-orderly g c =
    let fits : FitsShape (g.D.WornDie.state c.args.die.now).shape c.args.logical
    = subst (λ (shape : Shape). FitsShape shape c.args.logical) c.shape-shape.ensures (c.fits_shape.ensures.fits c.if-not-fits_shape.false) in
    let fits' : FitsShape (g.D.WornDie.state c.read_table.new.die).shape c.args.logical = subst (λ (shape : Shape). FitsShape shape c.args.logical) (sym c.read_table.ensures.only_reads.shape) fits in
    orderly_opened (g.met.D.WornDie.shaped c.read_table.new.die) c.read_reserve.ensures.only_reads
    (orderly_told (g.D.WornDie.bad_erases c.read_reserve.new.die)
    (told_whole c.read_table.ensures.only_reads c.in_ok-read_table.ensures.told) c.in_ok-read_reserve.ensures.spares fits' c.first_tally-tally.ensures.fresh (search rules)) refl

pub returns-clause-starts : goal.returns-clause-starts
returns-clause-starts g c = starts (returns-clause-orderly g c) c.first_tally-tally.ensures.fresh (search rules)
