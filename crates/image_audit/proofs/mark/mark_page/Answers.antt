-- The last slot of a page is the last before the next page.
use Rattle.std.proofs.Common.{◌≡◌, List, ap, ◌∙◌, subst, arith}
use Rattle.page_codec.specs.declared.place.Place.{Place}
use Rattle.page_codec.specs.Geometry.{Geometry}
use Rattle.image_audit.specs.Images.{pages_in}
use Rattle.image_audit.specs.Reading.{ReadTo, slots_before}
use Rattle.image_audit.proofs.Slots.{page_more}
use Rattle.image_audit.proofs.mark.mark_page.Goals as goal

pub returns-clause-read : goal.returns-clause-read
returns-clause-read c =
    let g = c.args.geometry.now in
    let last : c.loop-slot.slot ≡ g.generations = omega (arith, c.loop-slot-test.false, c.loop-slot.auto.slot-end, ap (λ (h : Geometry). h.generations) c.geometry.view_is) in
    subst (λ (slots : List Place). ReadTo g (pages_in g c.args.cells.now) slots c.loop-slot.marks.items)
    (ap (slots_before g c.args.page) last ∙ page_more g c.args.page) c.loop-slot.invariant
