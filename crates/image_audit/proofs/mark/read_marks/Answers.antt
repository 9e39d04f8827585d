-- Before the first page there is no slot, and before the end all slots are.
use Rattle.std.proofs.Common.{◌≡◌, ℕ, List, [], sym, ap, ◌∙◌, subst, arith}
use Rattle.page_codec.specs.declared.place.Place.{Place}
use Rattle.page_codec.specs.Geometry.{page_count}
use Rattle.image_audit.specs.declared.mark.Mark.{Mark}
use Rattle.image_audit.specs.Images.{pages_in}
use Rattle.image_audit.specs.Reading.{ReadTo, slots_before}
use Rattle.image_audit.proofs.MarkLemmas.{read_none}
use Rattle.image_audit.proofs.Slots.{all_slots}
use Rattle.image_audit.proofs.mark.read_marks.Goals as goal

pub loop-page-init : goal.loop-page-init
loop-page-init c =
    let g = c.args.geometry.now in
    subst (λ (marks : List Mark). ReadTo g (pages_in g c.args.cells.now) [] marks) (sym c.new-marks.ensures.items) (read_none g (pages_in g c.args.cells.now))

pub returns-clause-read : goal.returns-clause-read
returns-clause-read c =
    let g = c.args.geometry.now in
    let last : c.loop-page.page ≡ page_count g = omega (arith, c.loop-page-test.false, c.loop-page.auto.page-end, c.page_count-page-end.ensures) in
    subst (λ (slots : List Place). ReadTo g (pages_in g c.args.cells.now) slots c.loop-page.marks.items)
    (ap (λ (page : ℕ). slots_before g page 0) last ∙ all_slots g) c.loop-page.invariant
