-- Raising the next seq changes nothing else, and what came before keeps the tables as they are while pages are read.
use Rattle.std.proofs.Common.{refl}
use Rattle.mount_scan.proofs.Taken.{reading_stays}
use Rattle.mount_scan.proofs.slot.note_slot.Goals as goal
use Rattle.mount_scan.proofs.slot.note_slot.Goals.{then-may+then-header-sectors+then-slot+then-not-is_copy, else-may}

pub returns-clause-reading : goal.returns-clause-reading
returns-clause-reading c =
    reading_stays c.if-may.tables _ (record { map = refl; seqs = refl; book = refl; found = refl; span = refl }) (elim c.if-may.branch [
      | then-may+then-header-sectors+then-slot+then-not-is_copy w ↦ rw w.tables-is w.note.ensures.reading
      | else-may w ↦ rw w.tables-is c.requires.reading
    ])
