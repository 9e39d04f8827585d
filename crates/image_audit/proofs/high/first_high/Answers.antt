-- Each mark before the first of such a seq is passed.
use Rattle.std.proofs.Common.{false, sym, ap, ◌∙◌, arith}
use Rattle.std.proofs.lemmas.List.{drop_all}
use Rattle.image_audit.specs.declared.mark.Mark.{Mark}
use Rattle.image_audit.specs.Marks.{first_high}
use Rattle.image_audit.proofs.Passed.{high_here, low_here, none_high_left}
use Rattle.image_audit.proofs.high.first_high.Goals as goal

abbrev no_mark : Mark
no_mark = record { place = record { page = 0; slot = 0 }; header = record { sector = 0; seq = 0; kind = 0 }; counts = false }

pub returns-then-mark-ge-BOUND : goal.returns-then-mark-ge-BOUND
returns-then-mark-ge-BOUND c = sym (c.loop-mark.invariant ∙ high_here c.args.marks.now c.loop-mark.mark-index no_mark c.loop-mark-test.true c.if-mark-ge-BOUND.true)

pub loop-mark-preserved : goal.loop-mark-preserved
loop-mark-preserved c = c.loop-mark.invariant ∙ low_here c.args.marks.now c.loop-mark.mark-index no_mark c.loop-mark-test.true c.if-mark-ge-BOUND.false

pub returns : goal.returns
returns c = sym (c.loop-mark.invariant ∙ (ap first_high (drop_all c.loop-mark.mark-index c.args.marks.now (omega arith)) ∙ none_high_left))
