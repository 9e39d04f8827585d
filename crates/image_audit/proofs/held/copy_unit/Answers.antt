-- The unit is its pages, one after the other.
use Rattle.std.proofs.Common.{◌≡◌, ℕ, ◌++◌, List, sym, ap, ap₂, ◌∙◌, arith}
use Rattle.page_codec.specs.Geometry.{Geometry}
use Rattle.image_audit.specs.Images.{pages_in}
use Rattle.image_audit.proofs.Units.{unit_of_two}
use Rattle.image_audit.proofs.held.copy_unit.Goals as goal

pub returns-else-geometry-eq1 : goal.returns-else-geometry-eq1
returns-else-geometry-eq1 c =
    let g = c.args.geometry.now in
    let some = c.geometry.invariant.some_span in
    let few = c.geometry.invariant.small_span in
    let two : g.span ≡ 2 = omega (arith, ap (λ (h : Geometry). h.span) c.geometry.view_is, some, few, c.if-geometry-eq1.false) in
    ap₂ (λ (xs ys : List ℕ). xs ++ ys) (c.copy_from_slice-else-geometry-eq1.ensures.after ∙ c.main-else-geometry-eq1.ensures.main)
    (c.copy_from_slice-else-geometry-eq1-2.ensures.after ∙ c.main-else-geometry-eq1-2.ensures.main)
    ∙ sym (unit_of_two g (pages_in g c.args.cells.now) c.args.page two)
