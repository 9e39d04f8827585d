use Rattle.image_audit.specs.Images.{pages_in}
use Rattle.image_audit.specs.Reading.{ReadTo, slots_before}
use Rattle.image_audit.proofs.mark.mark_page.Given as goal

abbrev pub invariant-loop-slot : goal.invariant-loop-slot
invariant-loop-slot l = ReadTo l.geometry (pages_in l.geometry l.cells) (slots_before l.geometry l.page l.slot) l.marks.items
