use Rattle.image_audit.specs.Images.{pages_in}
use Rattle.image_audit.specs.Reading.{ReadTo, slots_before}
use Rattle.image_audit.proofs.mark.read_marks.Given as goal

abbrev pub invariant-loop-page : goal.invariant-loop-page
invariant-loop-page l = ReadTo l.geometry (pages_in l.geometry l.cells) (slots_before l.geometry l.page 0) l.marks.items
