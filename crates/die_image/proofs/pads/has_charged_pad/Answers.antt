-- Page after page.
use Rattle.std.proofs.Common.{◌≡◌, ℕ, ◌+◌, ◌-◌, ◌*◌, false, get_or, refl, subst, sym, inl, inr, arith}
use Rattle.std.proofs.lemmas.Bool.{cases_lt}
use Rattle.cell_die.specs.DieState.{page_bytes}
use Rattle.die_image.specs.Image.{shape_of}
use Rattle.die_image.specs.Pads.{is_pad_charged_in}
use Rattle.die_image.proofs.NoPad.{clean_everywhere}
use Rattle.die_image.proofs.pads.has_charged_pad.Goals as goal

pub loop-page-preserved : goal.loop-page-preserved
loop-page-preserved c = λ i lt.
    let shape = shape_of c.args.head.now in
    let from : ℕ = c.loop-page.page * page_bytes shape in
    elim (cases_lt i from) [
      | inl before ↦ c.loop-page.invariant i before
      | inr after ↦
          let e : from + (i - from) ≡ i = omega arith in
          subst (λ index. is_pad_charged_in shape index (get_or c.args.cells.now index 0) ≡ false) e
          (c.if-is_page_charged.ensures.clean refl (i - from) (omega arith))
    ]

pub returns : goal.returns
returns c =
    let last : c.loop-page.page ≡ c.args.pages = omega (arith, c.loop-page-test.false, c.loop-page.auto.page-end) in
    sym (clean_everywhere (shape_of c.args.head.now) c.args.cells.now (λ i lt. c.loop-page.invariant i (rw last (omega (arith, lt, c.requires.whole)))))
