-- The slots of a page are scanned one after another, two or three of them.
use Rattle.std.proofs.Common.{◌≡◌, arith}
use Rattle.mount_scan.proofs.Pages.{scanned_two, scanned_three}
use Rattle.mount_scan.proofs.page.note_page.Goals as goal

pub returns-then-generations-eq3-clause-scans : goal.returns-then-generations-eq3-clause-scans
returns-then-generations-eq3-clause-scans c g cells slots shows same scanned =
    let three : g.generations ≡ 3 = omega (arith, same, c.generations-generations.ensures.value, c.if-generations-eq3.true) in
    scanned_three g cells slots c.args.page c.args.seen.now c.args.unit c.args.sealed shows three c.args.tables.now c.note_slot.new.tables c.note_slot-2.new.tables
    c.note_slot-then-generations-eq3.new.tables
    (record { seqs = c.requires.reading.seqs; same_sectors = c.note_slot.ensures.same_sectors; notes = c.note_slot.ensures.notes; seq = c.note_slot.ensures.seq })
    (record { seqs = c.note_slot.ensures.reading.seqs; same_sectors = c.note_slot-2.ensures.same_sectors; notes = c.note_slot-2.ensures.notes; seq = c.note_slot-2.ensures.seq })
    (record {
      seqs = c.note_slot-2.ensures.reading.seqs;
      same_sectors = c.note_slot-then-generations-eq3.ensures.same_sectors;
      notes = c.note_slot-then-generations-eq3.ensures.notes;
      seq = c.note_slot-then-generations-eq3.ensures.seq;
    })
    scanned

pub returns-else-generations-eq3-clause-scans : goal.returns-else-generations-eq3-clause-scans
returns-else-generations-eq3-clause-scans c g cells slots shows same scanned =
    let valid = c.generations-generations.ensures.valid in
    let two : g.generations ≡ 2 = omega (arith, same, c.generations-generations.ensures.value, c.if-generations-eq3.false, valid.two_generations, valid.three_generations) in
    scanned_two g cells slots c.args.page c.args.seen.now c.args.unit c.args.sealed shows two c.args.tables.now c.note_slot.new.tables c.note_slot-2.new.tables
    (record { seqs = c.requires.reading.seqs; same_sectors = c.note_slot.ensures.same_sectors; notes = c.note_slot.ensures.notes; seq = c.note_slot.ensures.seq })
    (record { seqs = c.note_slot.ensures.reading.seqs; same_sectors = c.note_slot-2.ensures.same_sectors; notes = c.note_slot-2.ensures.notes; seq = c.note_slot-2.ensures.seq })
    scanned
