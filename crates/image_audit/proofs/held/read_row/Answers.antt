-- A later slot stands on a unit's first page, whose unit lies within the die.
use Rattle.image_audit.proofs.Units.{slot_room}
use Rattle.image_audit.proofs.held.read_row.Goals as goal

pub copy_unit-requires-clause-page : goal.copy_unit-requires-clause-page
copy_unit-requires-clause-page g c = slot_room c.args.geometry.now c.args.mark.now.place c.requires.fitting.some_pages c.requires.fitting.some_span c.requires.place c.if-mark-eq0.false
