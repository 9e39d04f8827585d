-- A record that wins takes over.
use Rattle.mount_scan.proofs.Taken.{reading_taken, room_taken}
use Rattle.mount_scan.proofs.note.note.Goals as goal

pub returns-then-wins-clause-reading : goal.returns-then-wins-clause-reading
returns-then-wins-clause-reading c =
    reading_taken c.args.tables.now c.take_over.new.tables c.args.place c.args.header.now c.requires.reading c.requires.sector c.requires.block c.take_over.ensures.takes_over

pub returns-then-wins-clause-room : goal.returns-then-wins-clause-room
returns-then-wins-clause-room c =
    room_taken c.args.tables.now c.take_over.new.tables c.args.place c.args.header.now c.requires.reading c.requires.sector c.requires.block c.take_over.ensures.takes_over
