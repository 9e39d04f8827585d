-- A page that was scanned shows its slots, and noting them reads it into the tables.
use Rattle.std.proofs.Common.{◌+◌, length, sym, subst}
use Rattle.mount_scan.specs.Scanned.{ReadInto, Shows, geometry_of}
use Rattle.mount_scan.proofs.Blocks.{as_before, page_notes, page_shows}
use Rattle.mount_scan.proofs.block.read_page.Goals as goal

pub returns-clause-read : goal.returns-clause-read
returns-clause-read g c =
    let block = c.args.block in
    let number = c.args.number in
    let old = c.args.tables.now in
    let new = c.note_page.new.tables in
    as_before (λ n cells. ReadInto n cells block (number + 1) new) (g.D.Die.state c.args.die.now) (g.D.Die.state c.scan.new.die) c.args.work.now c.scan.new.work (length old.map) (length new.map)
    c.scan.ensures.kept.shape c.scan.ensures.same_cells.cells c.scan.ensures.same_work c.note_page.ensures.same_sectors
    (page_notes (g.D.Die.state c.args.die.now) c.args.work.now old block number c.args.sight c.requires.serves c.requires.block c.requires.number c.requires.read c.requires.shows
    c.pages.ensures.valid new c.pages.result c.in_ok-seen.seen c.begins_unit-unit.result c.with_page-shown.result
    c.pages.ensures.value c.in_ok-seen.ensures.seen c.begins_unit-unit.ensures c.with_page-shown.ensures
    (record {
      reading = c.note_page.ensures.reading;
      room = c.note_page.ensures.room;
      same_blocks = c.note_page.ensures.same_blocks;
      scans = c.note_page.ensures.scans;
      same_found = c.note_page.ensures.same_found;
      same_span = c.note_page.ensures.same_span;
    }))

pub returns-clause-shows : goal.returns-clause-shows
returns-clause-shows g c =
    let block = c.args.block in
    let number = c.args.number in
    let old = c.args.tables.now in
    as_before (λ n cells. Shows n cells block (number + 1) c.with_page-shown.result) (g.D.Die.state c.args.die.now) (g.D.Die.state c.scan.new.die) c.args.work.now c.scan.new.work (length old.map)
    (length c.note_page.new.tables.map)
    c.scan.ensures.kept.shape c.scan.ensures.same_cells.cells c.scan.ensures.same_work c.note_page.ensures.same_sectors
    (subst (λ sight. Shows (geometry_of (g.D.Die.state c.args.die.now).shape c.args.work.now (length old.map)) (g.D.Die.state c.args.die.now).cells block (number + 1) sight)
    (sym c.with_page-shown.ensures)
    (page_shows (g.D.Die.state c.args.die.now) c.args.work.now old block number c.args.sight c.requires.serves c.requires.block c.requires.number c.requires.read c.requires.shows
    c.pages.ensures.valid c.pages.result c.in_ok-seen.seen c.begins_unit-unit.result
    c.pages.ensures.value c.in_ok-seen.ensures.seen c.begins_unit-unit.ensures))
